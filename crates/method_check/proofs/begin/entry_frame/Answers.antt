use Rattle.std.proofs.Common.{◌≡◌, ◌<◌, Some, get_or, length, slice_get, subst, take}
use Rattle.type_rules.specs.declared.types.VerificationType.TheVariants.{Top}
use Rattle.method_check.proofs.Begun.{among_first, filling_more}
use Rattle.method_check.proofs.begin.entry_frame.Goals as goal

pub loop-at-preserved : goal.loop-at-preserved
loop-at-preserved c =
    let made = c.in_ok-frame.ensures in
    let words = c.as_slice-words.result.now in
    let word = get_or (take c.min-there.result words) c.loop-at.at Top in
    let here = among_first words c.min-there.result c.loop-at.at c.loop-at-test.true in
    let value = c.as_slice-words.ensures.value in
    filling_more c.args.stores.now c.loop-at.stores c.set_local.new.self c.loop-at.frame c.in_ok-frame.frame c.args.entry.now.words.items c.args.entry.now.constructs c.loop-at.at word
    (subst (λ ws. slice_get ws c.loop-at.at ≡ Some word) value here.0) (subst (λ ws. c.loop-at.at < length ws) value here.1)
    c.loop-at.invariant made.follows made.remembered made.frame made.shown
