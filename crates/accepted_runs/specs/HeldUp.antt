-- Runs of a program on shared words that end where no thread is enabled.
use Rattle.std.specs.Prelude.{◌≡◌, ◌<◌, ◌≤◌, ◌+◌, ◌^◌, ℕ, Bool, List, length}
use Rattle.code_decode.specs.declared.code.ClassUnit.{ClassUnit}
use Rattle.link_types.specs.declared.operands.MethodId.{MethodId}
use Rattle.link_rules.specs.FixedObjects.{first_free}
use Rattle.link_rules.specs.Names.{program_names}
use Rattle.op_core.specs.CleanCut.{kept_by}
use Rattle.schedules.specs.Schedule.{Rest}
use Rattle.schedules.specs.Run.{Run, Follows, IsHeldUp}
use Rattle.thread_automaton.specs.declared.Bounds.{Bounds}
use Rattle.core_runs.specs.Cores.{Core}
use Rattle.core_runs.specs.Acts.{Act}
use Rattle.java_rows.specs.Start.{opening_of}
use Rattle.java_rows.specs.Thread.{Local, java_code, first_state}
use Rattle.word_runs.specs.WordTurns.{Progress, word_turns}
use Rattle.word_runs.specs.Laws.{begun_with}
use Rattle.core_law.specs.Erasure.{is_left_out}
use Rattle.core_law.specs.Idle.{NoneIsEnabled}
use Rattle.opening_cores.specs.Openings.{opening_core}
use Rattle.accepted_runs.specs.Waiting.{EndsWaiting}
use Rattle.accepted_runs.specs.Runs.{IsErasedRun, AreErasedTurns}

-- What is left of a run of the program that ends where no thread is enabled is an execution of the program after which some thread
-- hasn't ended, none of these has a step, and each of them waits.
abbrev pub IdleRunsEndWaiting : List ClassUnit → MethodId → Type 0
IdleRunsEndWaiting us main = (b : Bounds) (classes : ℕ) (c : ℕ → Core Local) (acts : List Act) → (run : IsErasedRun us main b classes c acts) → NoneIsEnabled java_code (c (length acts))
    → EndsWaiting us main (kept_by (is_left_out c acts) run.erasure.entries)

-- What is left of these turns of the program is such an execution.
pub record AreWaitingTurns (us : List ClassUnit) (main : MethodId) (b : Bounds) (last : Progress Local) : Type 0 where
  pub turns : AreErasedTurns us main b last
  pub waits : EndsWaiting us main (kept_by (is_left_out turns.cores last.acts) turns.erased.erasure.entries)

-- So it is where turns are held up that follow a schedule from the words with which the program begins.
abbrev pub HeldUpTurnsEndWaiting : List ClassUnit → MethodId → Type 0
HeldUpTurnsEndWaiting us main = (b : Bounds) → b.first ≡ first_free (program_names us) → b.first + b.limits.heap ≤ 2 ^ 32 → b.limits.sections < 2 ^ 24
    → (rest : Rest) (keeps : Bool) (threads : List ℕ) (last : Run (Progress Local)) → Follows (word_turns java_code b) (begun_with (opening_core (opening_of us) (first_state us main)) rest keeps) threads last
    → IsHeldUp (word_turns java_code b) last → AreWaitingTurns us main b last.state
