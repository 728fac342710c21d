use Rattle.std.proofs.Common.{arith}
use Rattle.type_lists.proofs.SetLaws.{on_three}
use Rattle.map_frames.proofs.ItemLaws.{stack_more}
use Rattle.map_frames.proofs.stack.with_word.Goals as goal

pub returns-then-frame-from-clause-words : goal.returns-then-frame-from-clause-words
returns-then-frame-from-clause-words c = λ locals unset ws before.
    on_three _ _ _ _ c.push.result
    (λ made there is again.
    stack_more c.args.stores.now c.push.new.self c.args.frame made c.args.word c.push.ensures.follows (omega (arith, c.if-frame-from.true, c.from.ensures, c.requires.stack)) there is locals unset ws before)
    c.push.ensures.frame c.push.ensures.shown c.push.ensures.frame
