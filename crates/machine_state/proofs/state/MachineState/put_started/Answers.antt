use Rattle.machine_tables.specs.Tables.{object_at}
use Rattle.machine_state.proofs.ChangeLemmas.{started_changed}
use Rattle.machine_state.proofs.MachineLemmas.{with_objects}
use Rattle.machine_state.proofs.state.MachineState.put_started.Goals as goal

pub returns : goal.returns
returns g c =
    let now = c.args.self.now in
    let new = c.set_started.new.self in
    with_objects g.C.ThreadCode.state now new
    (started_changed (object_at now.objects) (object_at new) c.args.reference c.args.number c.requires c.set_started.ensures.there)
