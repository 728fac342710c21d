-- What the tags of words say of their writers, along a run.
use Rattle.std.specs.Prelude.{◌≡◌, ◌≤◌, ◌⊎◌, ℕ, suc, Bool, Some, List, [], ◌∷◌, length}
use Rattle.op_core.specs.ThreadCode.{Code}
use Rattle.heap_words.specs.Words.{tag_of, tag_section, tag_level}
use Rattle.heap_words.specs.declared.areas.Area.TheVariants.{Section}
use Rattle.write_log.specs.declared.Noted.{Noted}
use Rattle.step_port.specs.Words.{Words}
use Rattle.thread_automaton.specs.declared.Bounds.{Bounds}
use Rattle.thread_automaton.specs.ThreadState.{ThreadState}
use Rattle.core_runs.specs.Cores.{Core}
use Rattle.core_runs.specs.Acts.{Act}
use Rattle.section_laws.specs.Known.{IsCommittedOrPinned}
use Rattle.section_laws.specs.Layout.{IsWordPlace}
use Rattle.written_words.specs.Noted.{IsTaggedRun, heap_of}
use Rattle.written_words.specs.Writers.{AreLevelsOf, writers}

-- A run as `noted_words` has them, in which no word of an object has a tag as it begins.
pub record IsWrittenRun {S : Type 0} (code : Code S) (b : Bounds) (is_thread : ℕ → Bool) (first : S) (classes : ℕ) (c : ℕ → Core S) (acts : List Act) : Type 0 where
  pub tagged : IsTaggedRun code b is_thread first classes c acts
  pub begins : (p : ℕ) → IsWordPlace is_thread (c 0).objects p → tag_of (heap_of (c 0).words p) ≡ 0

-- The tag of a word with this writer is 0 where that is empty. Else it says the section, and how many levels were open.
abbrev pub TagSays : {S : Type 0} → (ℕ → Core S) → List Act → List ℕ → ℕ → Type 0
TagSays c acts [] tag = tag ≡ 0
TagSays c acts (p ∷ levels) tag = (t : ℕ) × AreLevelsOf c acts t (tag_section tag) (p ∷ levels) × (tag_level tag ≡ suc (length levels))

-- so says the tag of each word of an object
abbrev pub TagsSayWriters : {S : Type 0} → Code S → Type 0
TagsSayWriters {S} code = (b : Bounds) (is_thread : ℕ → Bool) (first : S) (classes : ℕ) (c : ℕ → Core S) (acts : List Act) → IsWrittenRun code b is_thread first classes c acts
    → (k p : ℕ) → k ≤ length acts → IsWordPlace is_thread (c k).objects p → TagSays c acts ((writers c acts k).word p) (tag_of (heap_of (c k).words p))

-- An old word that thread t has logged, which has this writer and this tag. To put it back is safe: no section wrote it, or the
-- thread itself opened the one that did, or it is committed, or pinned at least as deep as the tag says.
pub record OldWordSays {S : Type 0} (c : ℕ → Core S) (acts : List Act) (words : Words) (t : ℕ) (writer : List ℕ) (tag : ℕ) : Type 0 where
  pub says : TagSays c acts writer tag
  pub safe : AreLevelsOf c acts t (tag_section tag) writer ⊎ IsCommittedOrPinned (words (Section (tag_section tag))) (tag_level tag)

-- so it is with each old word of its log
abbrev pub OldWordsSay : {S : Type 0} → (ℕ → Core S) → List Act → Words → ℕ → List Noted → List (List ℕ) → Type 0
OldWordsSay c acts words t [] [] = Unit {0}
OldWordsSay c acts words t (x ∷ log) (writer ∷ old) = OldWordSays c acts words t writer (tag_of x.old) × OldWordsSay c acts words t log old
OldWordsSay c acts words t log old = ⊥

abbrev pub OldTagsSayWriters : {S : Type 0} → Code S → Type 0
OldTagsSayWriters {S} code = (b : Bounds) (is_thread : ℕ → Bool) (first : S) (classes : ℕ) (c : ℕ → Core S) (acts : List Act) → IsWrittenRun code b is_thread first classes c acts
    → (k t : ℕ) (th : ThreadState S) → k ≤ length acts → (c k).threads t ≡ Some th → OldWordsSay c acts (c k).words t th.log ((writers c acts k).old t)
