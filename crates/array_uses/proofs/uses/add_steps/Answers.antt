use Rattle.std.proofs.Common.{length, refl, subst}
use Rattle.std.proofs.lemmas.List.{take_all}
use Rattle.std.proofs.lemmas.Option.{slice_get_read}
use Rattle.instructions.specs.declared.what.Instr.{Instr}
use Rattle.instructions.specs.declared.what.Target.{Target}
use Rattle.link_rules.specs.Arrays.{arrays_of_what}
use Rattle.array_uses.specs.Most.{MostGrows}
use Rattle.array_uses.specs.Uses.{arrays_of_steps}
use Rattle.array_uses.proofs.Growing.{grows_item}
use Rattle.array_uses.proofs.uses.add_steps.Goals as goal

pub loop-step-preserved : goal.loop-step-preserved
loop-step-preserved c = λ us file right.
    let pool = c.args.unit.now.file.pool in
    let steps = c.args.steps.now in
    let s = c.step-item.result in
    let at = slice_get_read steps (length steps) c.loop-step.step-index s refl c.loop-step-test.true c.step-item.is in
    let its = right c.loop-step.step-index s at in
    grows_item us c.args.order.now (λ (x : Instr Target). arrays_of_what pool x.what) steps c.loop-step.step-index s c.args.most.now.items c.loop-step.most.items c.add_used.new.most.items at
    (c.loop-step.invariant us file right)
    (c.add_used.ensures us (arrays_of_what pool s.what) file.order_is file.names (c.array_used-used.ensures us c.args.unit.now file.types_are file.there c.as_slice.ensures its.uses its.rules))

pub returns : goal.returns
returns c = λ us file right.
    subst (λ xs. MostGrows us c.args.order.now c.args.most.now.items c.loop-step.most.items (arrays_of_steps c.args.unit.now.file.pool xs))
    (take_all c.loop-step.step-index c.args.steps.now c.loop-step-test.false) (c.loop-step.invariant us file right)
