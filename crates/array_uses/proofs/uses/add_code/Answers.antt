use Rattle.std.proofs.Common.{sym, subst}
use Rattle.link_rules.specs.Arrays.{steps_of_code}
use Rattle.array_uses.specs.Most.{MostGrows}
use Rattle.array_uses.specs.Uses.{AreRight, IsCodeRight, arrays_of_steps}
use Rattle.array_uses.proofs.uses.add_code.Goals as goal

pub returns-in-Some : goal.returns-in-Some
returns-in-Some c = λ us file right.
    let its = subst (IsCodeRight us c.args.file c.args.unit.now) c.in-Some.is right in
    let steps = subst (AreRight us c.args.file c.args.unit.now) (sym c.as_slice.ensures) its in
    subst (λ o. MostGrows us c.args.order.now c.args.most.now.items c.add_steps.new.most.items (arrays_of_steps c.args.unit.now.file.pool (steps_of_code o))) (sym c.in-Some.is)
    (subst (λ xs. MostGrows us c.args.order.now c.args.most.now.items c.add_steps.new.most.items (arrays_of_steps c.args.unit.now.file.pool xs)) c.as_slice.ensures (c.add_steps.ensures us file steps))
