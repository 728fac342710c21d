use Rattle.std.proofs.Common.{◌≡◌, false, sym, subst}
use Rattle.op_core.specs.OrdinaryState.{live}
use Rattle.op_core.specs.declared.Next.TheVariants.{Silent}
use Rattle.ordinary_machine.specs.Machine.{Machine, HasBegun}
use Rattle.ordinary_machine.proofs.ordinary.Ordinary.try_silent.Goals as goal

pub leave_silently-requires-clause-begun : goal.leave_silently-requires-clause-begun
leave_silently-requires-clause-begun g c =
    let none : c.in-Ok-false.field-0 ≡ false = c.in-Ok-false.field-0-test in
    subst (λ (m : Machine g.C.ThreadCode.State). HasBegun (m.now.threads c.args.thread)) (sym (c.in-Ok-false.ensures.kept (λ made. cc))) c.requires.begun

pub leave_silently-requires-clause-silent : goal.leave_silently-requires-clause-silent
leave_silently-requires-clause-silent g c =
    let none : c.in-Ok-false.field-0 ≡ false = c.in-Ok-false.field-0-test in
    subst (λ (m : Machine g.C.ThreadCode.State). (l : g.C.ThreadCode.State) → m.now.threads c.args.thread ≡ live l → g.C.ThreadCode.code.next l ≡ Silent)
    (sym (c.in-Ok-false.ensures.kept (λ made. cc))) c.requires.silent
