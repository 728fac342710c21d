-- What there is to undo where a run ends and no thread is enabled.
use Rattle.std.specs.Prelude.{◌≡◌, ℕ, Bool, Some, List, length}
use Rattle.op_core.specs.ThreadCode.{Code}
use Rattle.thread_automaton.specs.declared.Bounds.{Bounds}
use Rattle.thread_automaton.specs.ThreadState.{ThreadState}
use Rattle.core_runs.specs.Cores.{Core}
use Rattle.core_runs.specs.Acts.{Act}
use Rattle.section_laws.specs.Settled.{to_undo}
use Rattle.section_laws.specs.Levels.{IsLevelledRun}
use Rattle.first_law.specs.SettledRuns.{IsDoomedTest}
use Rattle.core_law.specs.Idle.{NoneIsEnabled}

-- no thread has a level open that is to be undone
abbrev pub IdleRunsHaveNothingToUndo : {S : Type 0} → Code S → Type 0
IdleRunsHaveNothingToUndo {S} code = (b : Bounds) (first : S) (classes : ℕ) (c : ℕ → Core S) (acts : List Act) → IsLevelledRun code b first classes c acts
    → (doomed : ℕ → Bool) → IsDoomedTest c acts doomed → NoneIsEnabled code (c (length acts))
    → (t : ℕ) (th : ThreadState S) → (c (length acts)).threads t ≡ Some th → to_undo doomed ((c (length acts)).levels t) ≡ 0
