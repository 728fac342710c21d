use Rattle.std.proofs.Common.{◌∙◌, sym, ap, subst}
use Rattle.java_rows.specs.Start.{opening_of}
use Rattle.java_rows.specs.Thread.{java_code, first_state}
use Rattle.opening_cores.specs.Openings.{opening_core}
use Rattle.sched_core.specs.Outcome.{bounds_of, IsOutcome}
use Rattle.java_words.proofs.WordLemmas.{begun_well, begun_comes, both_give}
use Rattle.java_words.proofs.run.run_words.Goals as goal

pub run_schedule-requires-clause-well : goal.run_schedule-requires-clause-well
run_schedule-requires-clause-well g c =
    let us = c.args.accepted.now.units in
    let main = c.args.accepted.now.main in
    let is = c.requires.accepted.2 in
    begun_well us main c.args.limits.now c.in_ok-opening.opening _ (c.in_ok-opening.ensures.value ∙ ap opening_of c.world.ensures)
    (c.in_ok-code.ensures.state ∙ ap (λ u. first_state u c.main.result) c.requires.same ∙ ap (first_state us) c.main.ensures)
    (c.has_place.ensures.0 c.if-not-has_place.false) c.requires.sections (c.accepted_runs_are_erased.ensures.runs _ _ is) c.requires.turns (c.accepted_runs_are_ready.ensures.runs _ _ is)

pub returns : goal.returns
returns g c =
    let us = c.args.accepted.now.units in
    let main = c.args.accepted.now.main in
    let is = c.requires.accepted.2 in
    both_give c.outcome_of.result
    (λ outcome words untold. begun_comes us main c.args.limits.now c.in_ok-opening.opening _ (c.in_ok-opening.ensures.value ∙ ap opening_of c.world.ensures)
    (c.in_ok-code.ensures.state ∙ ap (λ u. first_state u c.main.result) c.requires.same ∙ ap (first_state us) c.main.ensures)
    (c.has_place.ensures.0 c.if-not-has_place.false) c.requires.sections (c.accepted_runs_are_erased.ensures.runs _ _ is) c.args.schedule.now
    (c.accepted_turns_tell_texts.ensures _ _ is) (c.turns_tell_ends.ensures us main) (c.held_up_programs_wait.ensures.runs _ _ is) c.held_up_turns_are_idle.ensures outcome untold
    (subst (IsOutcome java_code (bounds_of c.in_ok-opening.opening c.args.limits.now) (opening_core c.in_ok-opening.opening _) c.args.schedule.now) (sym words) c.in_ok-run.ensures))
    c.outcome_of.ensures.words c.outcome_of.ensures.untold
