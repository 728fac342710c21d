use Rattle.std.proofs.Common.{ap, ◌∙◌, refl, sym, subst}
use Rattle.step_port.specs.declared.answer.StepAnswer.{StepAnswer}
use Rattle.step_port.specs.declared.step.Step.{Step}
use Rattle.section_laws.specs.NextSteps.{step_made}
use Rattle.table_words.specs.Tables.{setup_in, parts_of_seat}
use Rattle.table_words.specs.Views.{first_after, FirstIsInRun}
use Rattle.table_hosts.proofs.HostSteps.{host_stands}
use Rattle.table_hosts.proofs.stopping.set_stop.Goals as goal

pub returns : goal.returns
returns g c =
    let at = c.set_stop.ensures in
    let seat = ap parts_of_seat c.into_seat-seat.ensures in
    let grown = seat ∙ at.grown ∙ ap (λ s. first_after (parts_of_seat s) (step_made Step.SetStop StepAnswer.Done)) c.port-port.ensures.seat in
    let run = subst (λ t. FirstIsInRun g.C.ThreadCode.state g.C.ThreadCode.code (setup_in t) (parts_of_seat c.into_seat-seat.result)) c.port-port.ensures.table
    (subst (FirstIsInRun g.C.ThreadCode.state g.C.ThreadCode.code (setup_in c.port-port.result.table.now)) (sym seat) at.in_run) in
    record {
      thread = refl;
      grown = grown;
      stands = (
        ap (λ s. s.seat.table_id) c.into_seat-seat.ensures ∙ c.set_stop.new.self.seated ∙ ap (λ t. t.table.shared.table_id) (at.table ∙ c.port-port.ensures.table),
        host_stands g.C.ThreadCode.state g.C.ThreadCode.saved g.C.ThreadCode.code (setup_in c.args.table.now) c.args.seated.thread (parts_of_seat c.args.seated.seat) _ Step.SetStop StepAnswer.Done c.requires.1 refl grown run,
      );
    }
