-- What a thread knows of the section that it last saw as the writer of a word, along a run.
use Rattle.std.specs.Prelude.{◌≡◌, ◌≤◌, ◌⊎◌, ℕ, Some, List, length}
use Rattle.op_core.specs.ThreadCode.{Code}
use Rattle.heap_words.specs.declared.areas.Area.TheVariants.{Section}
use Rattle.section_state.specs.declared.State.TheVariants.{Committed}
use Rattle.section_state.specs.SectionWord.{number_of, state_of, pinned_of}
use Rattle.thread_automaton.specs.declared.Bounds.{Bounds}
use Rattle.thread_automaton.specs.ThreadState.{ThreadState}
use Rattle.core_runs.specs.Cores.{Core}
use Rattle.core_runs.specs.Acts.{Act}
use Rattle.section_laws.specs.Runs.{IsRun}
use Rattle.section_laws.specs.OwnWords.{IsInBits}

-- the section of this word is committed, or pinned to this depth at least
abbrev pub IsCommittedOrPinned : ℕ → ℕ → Type 0
IsCommittedOrPinned word depth = (state_of word ≡ number_of Committed) ⊎ (depth ≤ pinned_of word)

-- so is the one that a thread knows, and stays so
abbrev pub KnownSectionsArePinned : {S : Type 0} → Code S → Type 0
KnownSectionsArePinned {S} code = (b : Bounds) (c : ℕ → Core S) (acts : List Act) → IsRun code b c acts → IsInBits c acts
    → (k t : ℕ) (th : ThreadState S) → k ≤ length acts → (c k).threads t ≡ Some th → IsCommittedOrPinned ((c k).words (Section th.known)) th.known_depth
