use Rattle.machine_tables.specs.Tables.{object_at}
use Rattle.machine_state.proofs.ChangeLemmas.{word_changed}
use Rattle.machine_state.proofs.MachineLemmas.{with_objects}
use Rattle.machine_state.proofs.state.MachineState.put_word.Goals as goal

pub returns : goal.returns
returns g c =
    let now = c.args.self.now in
    let new = c.set_word.new.self in
    with_objects g.C.ThreadCode.state now new
    (word_changed (object_at now.objects) (object_at new) c.args.reference c.args.place c.args.value c.requires c.set_word.ensures.there)
