-- What comes of a program that is executed on shared words.
use Rattle.std.specs.Prelude.{◌≡◌, List, None}
use Rattle.code_decode.specs.declared.code.ClassUnit.{ClassUnit}
use Rattle.link_types.specs.declared.operands.MethodId.{MethodId}
use Rattle.op_core.specs.declared.How.TheVariants.{Stuck}
use Rattle.op_core.specs.declared.Limits.{Limits}
use Rattle.op_core.specs.declared.Outcome.{Outcome}
use Rattle.op_core.specs.CleanCut.{kept_by}
use Rattle.op_core.specs.MadeTexts.{AreMadeTexts}
use Rattle.schedules.specs.declared.order.Schedule.{Schedule}
use Rattle.ordinary_machine.specs.Machine.{Machine}
use Rattle.ordinary_machine.specs.Start.{start_of}
use Rattle.ordinary_runs.specs.ScheduledRun.{Keeping, no_steps, AreEnds}
use Rattle.ordinary_runs.specs.Laws.{IsExecuted}
use Rattle.java_rows.specs.Start.{opening_of}
use Rattle.java_rows.specs.Thread.{Local, java_code, first_state}
use Rattle.thread_automaton.specs.declared.Bounds.{Bounds}
use Rattle.core_law.specs.Erasure.{is_left_out}
use Rattle.word_runs.specs.WordTurns.{Progress}
use Rattle.opening_cores.specs.Openings.{opening_core}
use Rattle.accepted_runs.specs.Waiting.{EndsWaiting}
use Rattle.accepted_runs.specs.Runs.{AreErasedTurns}
use Rattle.sched_core.specs.declared.word_outcome.WordOutcome.{WordOutcome}
use Rattle.sched_core.specs.Outcome.{bounds_of, IsOutcome}

-- the limits, and the first place of a new object of the program
abbrev pub program_bounds : List ClassUnit → Limits → Bounds
program_bounds us limits = bounds_of (opening_of us) limits

-- the ordinary machine at the start of the program of these classes, which begins with a method
abbrev pub machine_at_start : List ClassUnit → MethodId → Machine Local
machine_at_start us main = start_of (opening_of us) (first_state us main)

-- what the outcome says of the words and their threads
abbrev pub of_words : Outcome → WordOutcome
of_words outcome = record {
  lines = outcome.lines;
  ends = outcome.ends;
  how = outcome.how;
  opened = outcome.opened;
  undone = outcome.undone;
  made = outcome.made;
}

-- What an outcome tells of acts of the program's threads that have led to this place from the words with which the program begins. What
-- is left of these acts, once the levels that are revoked are left out, is an execution of the program on ordinary monitors. It prints
-- the lines, and leaves the threads ended and the texts that the program made, as the outcome says; `ends` and `made` say so of whatever
-- can be what is left. The outcome has the events of the execution, where they are kept. Where the run is stuck, some thread hasn't ended
-- after that execution, no such thread has a step, and each waits for one of five named reasons.
pub record TellsExecution (us : List ClassUnit) (main : MethodId) (b : Bounds) (keeping : Keeping) (last : Progress Local) (outcome : Outcome) : Type 0 where
  pub erased : AreErasedTurns us main b last
  pub executed : IsExecuted java_code (machine_at_start us main) keeping outcome
  pub left : executed.events ≡ kept_by (is_left_out erased.cores last.acts) erased.erased.erasure.entries
  pub ends : (also : AreErasedTurns us main b last) → AreEnds also.erased.erasure.last outcome.ends
  pub made : (also : AreErasedTurns us main b last) → AreMadeTexts also.erased.erasure.last outcome.lines outcome.made
  pub stuck : outcome.how ≡ Stuck → EndsWaiting us main executed.events

-- The turns that the schedule gives lead from the words with which the program begins to where the run ends as the outcome says, which
-- tells an execution of the program that is left of them.
pub record IsWordRun (us : List ClassUnit) (main : MethodId) (schedule : Schedule) (limits : Limits) (outcome : Outcome) : Type 0 where
  pub run : IsOutcome java_code (program_bounds us limits) (opening_core (opening_of us) (first_state us main)) schedule (of_words outcome)
  pub told : TellsExecution us main (program_bounds us limits) no_steps run.last.state outcome
  pub undos : outcome.undos ≡ None

-- a program has one outcome under a schedule and limits
abbrev pub WordRunsHaveOneOutcome : Type 0
WordRunsHaveOneOutcome = (us : List ClassUnit) (main : MethodId) (schedule : Schedule) (limits : Limits) (outcome other : Outcome)
    → IsWordRun us main schedule limits outcome → IsWordRun us main schedule limits other → other ≡ outcome
