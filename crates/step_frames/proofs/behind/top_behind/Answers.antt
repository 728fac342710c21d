use Rattle.std.proofs.Common.{List, ◌++◌, drop, sym, ap, ◌∙◌}
use Rattle.type_rules.specs.declared.types.VerificationType.{VerificationType}
use Rattle.type_rules.specs.Wants.{wants, words_wanted}
use Rattle.step_faults.proofs.Puts.{stack_same}
use Rattle.step_frames.proofs.Moved.{moved_behind}
use Rattle.step_frames.proofs.behind.top_behind.Goals as goal

pub returns-in-Some : goal.returns-in-Some
returns-in-Some g c =
    let env = g.W.MethodWorld.environment c.args.world.now in
    let f = g.F.FrameWords.frame c.args.frame.now in
    ap (λ (ws : List VerificationType). ws ++ drop (words_wanted (wants env c.args.what.now)) f.stack) c.moved.ensures
    ∙ moved_behind env c.args.at c.args.what.now f c.in-Some.operation _ _ _ _ (cc) c.requires.wanted
    c.stack_word.ensures c.stack_word-in-Some.ensures c.stack_word-in-Some-2.ensures c.stack_word-in-Some-3.ensures

pub returns-in-None : goal.returns-in-None
returns-in-None g c =
    let env = g.W.MethodWorld.environment c.args.world.now in
    let f = g.F.FrameWords.frame c.args.frame.now in
    ap (λ (ws : List VerificationType). ws ++ drop (words_wanted (wants env c.args.what.now)) f.stack) c.pushed.ensures
    ∙ sym (stack_same env c.args.at c.args.what.now f (cc))
