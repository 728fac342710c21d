use Rattle.std.proofs.Common.{sym, ◌∙◌}
use Rattle.std.proofs.lemmas.Bool.{false≢true}
use Rattle.machine_tables.specs.Tables.{object_at}
use Rattle.ordinary_machine.specs.Machine.{machine_of}
use Rattle.ordinary_machine.proofs.EnabledLemmas.{owner_there, lacking_enabled}
use Rattle.ordinary_machine.proofs.ordinary.Ordinary.is_enabled.Goals as goal

pub returns-else-can_step : goal.returns-else-can_step
returns-else-can_step g c =
    let state = g.C.ThreadCode.state in
    let now = c.args.self.now in
    let thread = c.args.thread in
    lacking_enabled g.C.ThreadCode.code (machine_of state now) thread (state c.in-Some.code.now) c.in-Want.op c.lacks_number.result
    (λ r. owner_there (object_at now.state.objects r) thread)
    c.in-Some.ensures (sym c.in-Want.ensures) (λ can. false≢true (sym c.if-can_step.false ∙ c.can_step.ensures.1 can)) c.lacks_number.ensures
