-- What each thread has to undo where a run ends, as the word of its section says it.
use Rattle.std.specs.Prelude.{◌≡◌, ℕ, Bool, Some, List, length}
use Rattle.op_core.specs.ThreadCode.{Code}
use Rattle.thread_automaton.specs.declared.Bounds.{Bounds}
use Rattle.thread_automaton.specs.ThreadState.{ThreadState}
use Rattle.core_runs.specs.Cores.{Core}
use Rattle.core_runs.specs.Acts.{Act}
use Rattle.section_laws.specs.Settled.{to_undo}
use Rattle.section_laws.specs.Levels.{IsLevelledRun}
use Rattle.first_law.specs.SettledRuns.{IsDoomedTest}
use Rattle.written_words.specs.SettledWords.{back_words}
use Rattle.word_texts.specs.PutBack.{levels_back, back_of}

-- Where a run ends, the levels that a thread has to undo are those from the level on to which the word of its section says that it
-- is revoked: no other level that is open was revoked at any place of the run.
abbrev pub LevelsToUndoAreTold : {S : Type 0} → Code S → Type 0
LevelsToUndoAreTold {S} code = (b : Bounds) (first : S) (classes : ℕ) (c : ℕ → Core S) (acts : List Act) → IsLevelledRun code b first classes c acts
    → (doomed : ℕ → Bool) → IsDoomedTest c acts doomed
    → (t : ℕ) (th : ThreadState S) → (c (length acts)).threads t ≡ Some th → to_undo doomed ((c (length acts)).levels t) ≡ levels_back (c (length acts)).words th

-- so the words that it puts back are told by the core alone
abbrev pub WordsToPutBackAreTold : {S : Type 0} → Code S → Type 0
WordsToPutBackAreTold {S} code = (b : Bounds) (first : S) (classes : ℕ) (c : ℕ → Core S) (acts : List Act) → IsLevelledRun code b first classes c acts
    → (doomed : ℕ → Bool) → IsDoomedTest c acts doomed
    → (t : ℕ) → back_words doomed ((c (length acts)).levels t) ((c (length acts)).threads t) ≡ back_of (c (length acts)) t
