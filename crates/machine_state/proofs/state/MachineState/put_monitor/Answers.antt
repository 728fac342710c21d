use Rattle.machine_tables.specs.Tables.{object_at}
use Rattle.machine_state.proofs.ChangeLemmas.{monitor_changed}
use Rattle.machine_state.proofs.MachineLemmas.{with_objects}
use Rattle.machine_state.proofs.state.MachineState.put_monitor.Goals as goal

pub returns : goal.returns
returns g c =
    let now = c.args.self.now in
    let new = c.set_monitor.new.self in
    with_objects g.C.ThreadCode.state now new
    (monitor_changed (object_at now.objects) (object_at new) c.args.reference c.args.monitor c.requires c.set_monitor.ensures.there)
