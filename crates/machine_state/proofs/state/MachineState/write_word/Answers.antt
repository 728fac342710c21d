use Rattle.std.proofs.Common.{sym, ◌∙◌}
use Rattle.std.proofs.lemmas.Bool.{false≢true}
use Rattle.machine_tables.specs.Tables.{object_at}
use Rattle.machine_state.proofs.ChangeLemmas.{word_changed}
use Rattle.machine_state.proofs.WriteLemmas.{word_kept}
use Rattle.machine_state.proofs.MachineLemmas.{with_objects}
use Rattle.machine_state.proofs.state.MachineState.write_word.Goals as goal

pub returns-clause-written : goal.returns-clause-written
returns-clause-written g c = λ is.
    let now = c.args.self.now in
    let new = c.write_word.new.self in
    with_objects g.C.ThreadCode.state now new
    (word_changed (object_at now.objects) (object_at new) c.args.reference c.args.place c.args.value (c.write_word.ensures.has.0 is) c.write_word.ensures.there)

pub returns-clause-kept : goal.returns-clause-kept
returns-clause-kept g c = λ is.
    let now = c.args.self.now in
    let new = c.write_word.new.self in
    with_objects g.C.ThreadCode.state now new
    (word_kept (object_at now.objects) (object_at new) c.args.reference c.args.place c.args.value (λ has. false≢true (sym is ∙ c.write_word.ensures.has.1 has)) c.write_word.ensures.there c.write_word.ensures.absent)
