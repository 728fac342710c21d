use Rattle.std.proofs.Common.{◌∙◌, ap}
use Rattle.java_rows.specs.Start.{opening_of}
use Rattle.java_rows.specs.Thread.{first_state}
use Rattle.java_words.proofs.WordLemmas.{begun_well}
use Rattle.java_words.proofs.TracedLemmas.{begun_traced, three_give}
use Rattle.java_words.proofs.traced.run_traced_words.Goals as goal

pub run_traced-requires-clause-well : goal.run_traced-requires-clause-well
run_traced-requires-clause-well g c =
    let us = c.args.accepted.now.units in
    let main = c.args.accepted.now.main in
    let is = c.requires.accepted.2 in
    begun_well us main c.args.limits.now c.in_ok-opening.opening _ (c.in_ok-opening.ensures.value ∙ ap opening_of c.world.ensures)
    (c.in_ok-code.ensures.state ∙ ap (λ u. first_state u c.main.result) c.requires.same ∙ ap (first_state us) c.main.ensures)
    (c.has_place.ensures.0 c.if-not-has_place.false) c.requires.sections (c.accepted_runs_are_erased.ensures.runs _ _ is) c.requires.turns (c.accepted_runs_are_ready.ensures.runs _ _ is)

pub returns : goal.returns
returns g c =
    let us = c.args.accepted.now.units in
    let main = c.args.accepted.now.main in
    let is = c.requires.accepted.2 in
    three_give c.outcome_of.result
    (λ outcome words events undos. begun_traced us main c.args.schedule.now c.args.limits.now c.in_ok-opening.opening _ (c.in_ok-opening.ensures.value ∙ ap opening_of c.world.ensures)
    (c.in_ok-code.ensures.state ∙ ap (λ u. first_state u c.main.result) c.requires.same ∙ ap (first_state us) c.main.ensures)
    (c.has_place.ensures.0 c.if-not-has_place.false) c.requires.sections (c.accepted_runs_are_erased.ensures.runs _ _ is) (c.accepted_runs_are_erased.ensures.turns _ _ is)
    c.rows_left_are_journals.ensures c.kept_journals_fit.ensures c.journals_have_events.ensures
    (c.accepted_turns_tell_texts.ensures _ _ is) (c.turns_tell_ends.ensures us main) (c.held_up_programs_wait.ensures.runs _ _ is) c.held_up_turns_are_idle.ensures outcome c.in_ok-traced.traced
    (record { words = words; events = events; undos = undos }) c.in_ok-traced.ensures)
    c.outcome_of.ensures.words c.outcome_of.ensures.events c.outcome_of.ensures.undos
