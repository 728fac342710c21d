use Rattle.std.proofs.Common.{ap, ◌∙◌, Some}
use Rattle.op_core.specs.OrdinaryState.{set_at}
use Rattle.machine_tables.specs.declared.objects.MonitorState.TheVariants.{Free}
use Rattle.machine_tables.specs.Tables.{object_at}
use Rattle.machine_state.specs.Machine.{machine_in, with_new_object}
use Rattle.machine_state.proofs.ChangeLemmas.{object_added}
use Rattle.machine_state.proofs.MachineLemmas.{with_objects}
use Rattle.machine_state.proofs.state.MachineState.put_object.Goals as goal

pub returns-clause-ok : goal.returns-clause-ok
returns-clause-ok g c =
    let state = g.C.ThreadCode.state in
    let now = c.args.self.now in
    let new = c.insert.new.self in
    let r = c.args.reference in
    let added = object_added (object_at now.objects) (object_at new) r c.args.class c.args.length c.args.count c.requires
    (c.in_ok-insert.ensures.ok ∙ ap (λ words. set_at (object_at now.objects) r (Some (record { class = c.args.class; length = c.args.length; words = words; monitor = Free; started = 0 }))) c.in_ok-zeros.ensures) in
    with_objects state (record now { taken = c.in_ok-taken.taken }) new added
    ∙ ap (λ taken. record (with_new_object (machine_in state now) r c.args.class c.args.length c.args.count) { taken = taken }) c.in_ok-taken.ensures
