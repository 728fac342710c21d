-- Runs that end where no thread is enabled.
use Rattle.std.specs.Prelude.{ℕ, Bool, List, length}
use Rattle.op_core.specs.ThreadCode.{Code}
use Rattle.op_core.specs.Execution.{IsStuck}
use Rattle.schedules.specs.Run.{Run, IsHeldUp}
use Rattle.thread_automaton.specs.declared.Bounds.{Bounds}
use Rattle.core_runs.specs.Cores.{Core}
use Rattle.core_runs.specs.Acts.{Act}
use Rattle.first_law.specs.Free.{IsFreeRun}
use Rattle.core_law.specs.Erasure.{Erasure}
use Rattle.word_runs.specs.WordTurns.{Progress, word_turns}
use Rattle.core_law.specs.Idle.{NoneIsEnabled}

-- What is left of a run that ends where no thread is enabled is stuck in the ordinary machine: some thread hasn't ended, and each such
-- thread wants, after some silent steps, an operation that has no step.
abbrev pub IdleRunsEndStuck : {S : Type 0} → Code S → Type 0
IdleRunsEndStuck {S} code = (b : Bounds) (is_thread : ℕ → Bool) (first : S) (classes : ℕ) (c : ℕ → Core S) (acts : List Act) → IsFreeRun code b is_thread first classes c acts
    → NoneIsEnabled code (c (length acts)) → (left : Erasure code b is_thread c acts) → IsStuck code left.last

-- Where turns that follow a schedule are held up, no thread is enabled.
abbrev pub HeldUpTurnsAreIdle : {S : Type 0} → Code S → Type 0
HeldUpTurnsAreIdle {S} code = (b : Bounds) (run : Run (Progress S)) → IsHeldUp (word_turns code b) run → NoneIsEnabled code run.state.core
