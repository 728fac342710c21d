-- What a thread knows of the section that it last saw as the writer of a word, where tags say who wrote words.
use Rattle.std.specs.Prelude.{◌≡◌, ◌≢◌, ◌<◌, ◌≤◌, ℕ, Bool, Some, List, length}
use Rattle.op_core.specs.ThreadCode.{Code}
use Rattle.heap_words.specs.declared.areas.Area.TheVariants.{Section}
use Rattle.section_state.specs.declared.State.TheVariants.{Undone}
use Rattle.section_state.specs.SectionWord.{number_of, state_of}
use Rattle.step_port.specs.Words.{Words}
use Rattle.thread_automaton.specs.declared.Bounds.{Bounds}
use Rattle.thread_automaton.specs.ThreadState.{ThreadState}
use Rattle.core_runs.specs.Cores.{Core}
use Rattle.core_runs.specs.Acts.{Act}
use Rattle.written_words.specs.Tags.{IsWrittenRun}

-- Where a thread knows a section, it knows a level of it, the section isn't undone, and it isn't the thread's own.
pub record KnowsOther {S : Type 0} (th : ThreadState S) (words : Words) : Type 0 where
  pub deep : 0 < th.known_depth
  pub done : state_of (words (Section th.known)) ≢ number_of Undone
  pub other : th.known ≢ th.section

abbrev pub KnownSectionsAreOthers : {S : Type 0} → Code S → Type 0
KnownSectionsAreOthers {S} code = (b : Bounds) (is_thread : ℕ → Bool) (first : S) (classes : ℕ) (c : ℕ → Core S) (acts : List Act) → IsWrittenRun code b is_thread first classes c acts
    → (k t : ℕ) (th : ThreadState S) → k ≤ length acts → (c k).threads t ≡ Some th → th.known ≢ 0 → KnowsOther th (c k).words
