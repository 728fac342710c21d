use Rattle.std.proofs.Common.{sym, subst}
use Rattle.thread_moves.specs.Thread.{thread_of}
use Rattle.sched_core.specs.Outcome.{IsOutcomeOf}
use Rattle.sched_core.specs.Going.{unscheduled, IsGoneOn}
use Rattle.sched_core.proofs.RunLemmas.{ok_gives}
use Rattle.sched_core.proofs.ComeLemmas.{tells}
use Rattle.sched_core.proofs.going_on.go_on.Goals as goal

pub returns-in-Some : goal.returns-in-Some
returns-in-Some g c = ok_gives c.outcome_of.result
    (λ outcome says place is. let way = c.in_ok-run.ensures.way place is in subst (λ how. IsGoneOn g.C.ThreadCode.code c.args.bounds place how outcome) (sym c.in-Some.is) (
      says.how,
      tells g.C.ThreadCode.code (thread_of g.C.ThreadCode.state g.C.ThreadCode.saved) c.in_ok-run.run'.machine.bounds c.in_ok-run.run'.machine.words.areas way.core place c.in_ok-run.run' c.in-Some.how outcome
          way.well way.acts way.place says,
    ))
    c.outcome_of.ensures

pub run_to_end-requires-clause-way : goal.run_to_end-requires-clause-way
run_to_end-requires-clause-way g c = (unscheduled c.requires.0, c.in_ok-run.ensures.way c.requires.0 c.requires.1)

pub returns : goal.returns
returns g c = ok_gives c.run_to_end.result
    (λ outcome says place is. subst (λ how. IsGoneOn g.C.ThreadCode.code c.args.bounds place how outcome) (sym c.in-None.is)
    (subst (λ k. IsOutcomeOf g.C.ThreadCode.code k (unscheduled place) outcome) c.in_ok-run.ensures.bounds (says (unscheduled place) (c.in_ok-run.ensures.way place is))))
    c.run_to_end.ensures
