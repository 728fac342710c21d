use Rattle.std.proofs.Common.{subst, sym}
use Rattle.op_core.specs.OrdinaryState.{IsThere}
use Rattle.ordinary_machine.specs.Machine.{Machine}
use Rattle.ordinary_machine.proofs.ordinary.Ordinary.rewake.Goals as goal

pub put_monitor-requires : goal.put_monitor-requires
put_monitor-requires g c = subst (λ (m : Machine g.C.ThreadCode.State). IsThere m.now.objects c.args.reference) (sym c.put_waiting.ensures) c.requires.can.0
