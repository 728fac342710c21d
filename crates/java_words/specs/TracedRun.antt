-- What comes of a program that is executed on shared words and keeps a journal.
use Rattle.std.specs.Prelude.{◌≡◌, ◌≤◌, ◌+◌, ℕ, List, Some, true, length}
use Rattle.code_decode.specs.declared.code.ClassUnit.{ClassUnit}
use Rattle.link_types.specs.declared.operands.MethodId.{MethodId}
use Rattle.op_core.specs.declared.How.TheVariants.{Stuck}
use Rattle.op_core.specs.declared.Limits.{Limits}
use Rattle.op_core.specs.declared.Outcome.{Outcome}
use Rattle.op_core.specs.declared.Undo.{Undo}
use Rattle.op_core.specs.CleanCut.{kept_by}
use Rattle.op_core.specs.MadeTexts.{AreMadeTexts}
use Rattle.schedules.specs.declared.order.Schedule.{Schedule}
use Rattle.schedules.specs.Run.{Run, Goes}
use Rattle.ordinary_runs.specs.ScheduledRun.{a_journal, AreEnds}
use Rattle.ordinary_runs.specs.Laws.{IsExecuted}
use Rattle.java_rows.specs.Start.{opening_of}
use Rattle.java_rows.specs.Thread.{Local, java_code, first_state}
use Rattle.trace_journal.specs.declared.item.JournalItem.{JournalItem}
use Rattle.trace_journal.specs.Text.{undos_in}
use Rattle.word_runs.specs.WordTurns.{Progress, word_turns}
use Rattle.word_runs.specs.Laws.{begun_with}
use Rattle.core_law.specs.Erasure.{is_left_out}
use Rattle.core_law.specs.Journal.{run_journal}
use Rattle.opening_cores.specs.Openings.{opening_core}
use Rattle.accepted_runs.specs.Waiting.{EndsWaiting}
use Rattle.accepted_runs.specs.Runs.{AreErasedTurns}
use Rattle.sched_core.specs.Outcome.{rest_of, TellsPlace}
use Rattle.java_words.specs.WordRun.{program_bounds, machine_at_start, of_words}

-- the events that are left of the turns, and their undoings, in the order in which they were made
abbrev pub journal_of : (us : List ClassUnit) (main : MethodId) (limits : Limits) (last : Progress Local) → AreErasedTurns us main (program_bounds us limits) last → List JournalItem
journal_of us main limits last left = run_journal left.cores (is_left_out left.cores last.acts) last.acts left.erased.erasure.entries

-- The turns that the schedule gives lead from the words with which the program begins to where the run ends as the outcome says, at the
-- latest where its journal is full. What is left of these turns, once the levels that are revoked are left out, is an execution of the
-- program on ordinary monitors, and its events are those of the outcome. It prints the lines, and leaves the threads ended and the
-- texts that the program made, as the outcome says. The undoings of the outcome are those of the turns, each with the number of events
-- before it that are left. All this is so of whatever can be what is left. Stuck means the same as of a run that keeps no journal.
pub record IsTracedRun (us : List ClassUnit) (main : MethodId) (schedule : Schedule) (limits : Limits) (outcome : Outcome) : Type 0 where
  pub threads : List ℕ
  pub last : Run (Progress Local)
  pub goes : Goes (word_turns java_code (program_bounds us limits)) (begun_with (opening_core (opening_of us) (first_state us main)) (rest_of schedule) true) threads outcome.how last
  pub told : TellsPlace java_code last.state (of_words outcome)
  pub erased : AreErasedTurns us main (program_bounds us limits) last.state
  pub executed : IsExecuted java_code (machine_at_start us main) a_journal outcome
  pub undos : List Undo
  pub kept : outcome.undos ≡ Some undos
  pub left : (also : AreErasedTurns us main (program_bounds us limits) last.state) → executed.events ≡ kept_by (is_left_out also.cores last.state.acts) also.erased.erasure.entries
  pub undone : (also : AreErasedTurns us main (program_bounds us limits) last.state) → undos ≡ undos_in 0 (journal_of us main limits last.state also)
  pub fits : length executed.events + length undos ≤ 4194304
  pub ends : (also : AreErasedTurns us main (program_bounds us limits) last.state) → AreEnds also.erased.erasure.last outcome.ends
  pub made : (also : AreErasedTurns us main (program_bounds us limits) last.state) → AreMadeTexts also.erased.erasure.last outcome.lines outcome.made
  pub stuck : outcome.how ≡ Stuck → EndsWaiting us main executed.events

-- a program has one such outcome under a schedule and limits
abbrev pub TracedRunsHaveOneOutcome : Type 0
TracedRunsHaveOneOutcome = (us : List ClassUnit) (main : MethodId) (schedule : Schedule) (limits : Limits) (outcome other : Outcome)
    → IsTracedRun us main schedule limits outcome → IsTracedRun us main schedule limits other → other ≡ outcome
