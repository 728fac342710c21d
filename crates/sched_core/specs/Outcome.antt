-- What comes of threads on shared words that follow a schedule.
use Rattle.std.specs.Prelude.{◌≡◌, ℕ, Option, List, map, All, false}
use Rattle.op_core.specs.declared.Limits.{Limits}
use Rattle.op_core.specs.declared.ThreadEnd.{ThreadEnd}
use Rattle.op_core.specs.ThreadCode.{Code}
use Rattle.fixed_objects.specs.declared.Opening.{Opening}
use Rattle.schedules.specs.declared.order.Schedule.{Schedule}
use Rattle.schedules.specs.Schedule.{Rest}
use Rattle.schedules.specs.Run.{AreThose, Run, Goes}
use Rattle.thread_automaton.specs.declared.Bounds.{Bounds}
use Rattle.core_runs.specs.Cores.{Core}
use Rattle.word_runs.specs.WordTurns.{Progress, EndedBy, word_turns}
use Rattle.word_runs.specs.Laws.{begun_with}
use Rattle.word_texts.specs.Texts.{AreTextsOf}
use Rattle.sched_core.specs.declared.word_outcome.WordOutcome.{WordOutcome}
use Rattle.sched_core.specs.Counts.{opened_in, undone_in}

-- how the threads ended that have ended, by rising number
pub record AreEnds {S : Type 0} (code : Code S) (c : Core S) (ends : List ThreadEnd) : Type 0 where
  pub threads : AreThose (λ t. (x : Option ℕ) × EndedBy code x (c.threads t)) (map (λ end. end.thread) ends)
  pub classes : All (λ end. EndedBy code end.class (c.threads end.thread)) ends

-- the limits, and the first place of a new object, which comes after the fixed objects
abbrev pub bounds_of : Opening → Limits → Bounds
bounds_of opening limits = record { limits = limits; first = opening.first }

-- the whole schedule
abbrev pub rest_of : Schedule → Rest
rest_of schedule = record { order = schedule.order; number = schedule.seed }

-- What an outcome says of the last place of a run, but how the run ended there. No events are kept.
pub record TellsPlace {S : Type 0} (code : Code S) (last : Progress S) (outcome : WordOutcome) : Type 0 where
  pub lines : outcome.lines ≡ last.core.lines
  pub ends : AreEnds code last.core outcome.ends
  pub opened : outcome.opened ≡ opened_in last.acts
  pub undone : outcome.undone ≡ undone_in last.acts
  pub made : AreTextsOf last.core outcome.lines outcome.made

-- The turns of some threads lead on from this run to a last place, of which the outcome tells, and there the run ends as it says.
pub record IsOutcomeOf {S : Type 0} (code : Code S) (b : Bounds) (run : Run (Progress S)) (outcome : WordOutcome) : Type 0 where
  pub threads : List ℕ
  pub last : Run (Progress S)
  pub goes : Goes (word_turns code b) run threads outcome.how last
  pub told : TellsPlace code last.state outcome

-- so they do from this core, by the schedule
abbrev pub IsOutcome : {S : Type 0} → Code S → Bounds → Core S → Schedule → WordOutcome → Type 0
IsOutcome code b core schedule = IsOutcomeOf code b (begun_with core (rest_of schedule) false)
