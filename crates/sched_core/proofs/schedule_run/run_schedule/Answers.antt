use Rattle.std.proofs.Common.{false, subst}
use Rattle.word_runs.specs.Laws.{begun_with}
use Rattle.opening_cores.specs.Openings.{opening_core}
use Rattle.sched_core.specs.Outcome.{rest_of, IsOutcomeOf}
use Rattle.sched_core.proofs.RunLemmas.{ok_gives}
use Rattle.sched_core.proofs.schedule_run.run_schedule.Goals as goal

pub returns : goal.returns
returns g c = ok_gives c.run_to_end.result
    (λ outcome says. subst (λ k. IsOutcomeOf g.C.ThreadCode.code k (begun_with (opening_core c.args.opening.now (g.C.ThreadCode.state c.args.code)) (rest_of c.args.schedule.now) false) outcome)
    c.in_ok-run.ensures.bounds (says (begun_with (opening_core c.args.opening.now (g.C.ThreadCode.state c.args.code)) (rest_of c.args.schedule.now) false) c.in_ok-run.ensures.way)) c.run_to_end.ensures
