-- Which words each level has written that is open, along a run.
use Rattle.std.specs.Prelude.{◌≡◌, ◌<◌, ◌≤◌, ◌-◌, ◌||◌, ℕ, Bool, true, false, Some, List, [], ◌∷◌, length, slice_get, nat_eq}
use Rattle.op_core.specs.ThreadCode.{Code}
use Rattle.heap_words.specs.declared.areas.Area.TheVariants.{Section}
use Rattle.heap_words.specs.Words.{tag_of, tag_section}
use Rattle.section_state.specs.SectionWord.{pinned_of}
use Rattle.write_log.specs.declared.Noted.{Noted}
use Rattle.thread_automaton.specs.declared.Bounds.{Bounds}
use Rattle.thread_automaton.specs.ThreadState.{ThreadState, mark_of, noted_since}
use Rattle.core_runs.specs.Cores.{Core}
use Rattle.core_runs.specs.Acts.{Act}
use Rattle.section_laws.specs.Settled.{notes}
use Rattle.section_laws.specs.Layout.{IsWordPlace}
use Rattle.written_words.specs.Noted.{heap_of}
use Rattle.section_laws.specs.OpenSections.{IsLiveOrRevoking}
use Rattle.written_words.specs.Writers.{writers}
use Rattle.written_words.specs.Tags.{IsWrittenRun}

-- the level is one of these
abbrev pub has : ℕ → List ℕ → Bool
has v [] = false
has v (q ∷ levels) = nat_eq q v || has v levels

-- The level v opened when n words were logged. It has written an old word exactly where the log has another old word of the same
-- place that is older, but was logged since.
abbrev pub OldWordsSince : ℕ → ℕ → List Noted → List (List ℕ) → Type 0
OldWordsSince v n [] [] = Unit {0}
OldWordsSince v n (x ∷ log) (writer ∷ old) = (has v writer ≡ notes x.at (noted_since n log)) × OldWordsSince v n log old
OldWordsSince v n log old = ⊥

-- It has written a word exactly where the word was logged since.
pub record HasWrittenSince (v n : ℕ) (log : List Noted) (old : List (List ℕ)) (word : ℕ → List ℕ) : Type 0 where
  pub words : (p : ℕ) → has v (word p) ≡ notes p (noted_since n log)
  pub olds : OldWordsSince v n log old

-- So it is with each open level of a thread that isn't pinned, while its section is live or revoking.
abbrev pub LevelsWriteWhatIsLogged : {S : Type 0} → Code S → Type 0
LevelsWriteWhatIsLogged {S} code = (b : Bounds) (is_thread : ℕ → Bool) (first : S) (classes : ℕ) (c : ℕ → Core S) (acts : List Act) → IsWrittenRun code b is_thread first classes c acts
    → (k t n v : ℕ) (th : ThreadState S) → k ≤ length acts → (c k).threads t ≡ Some th → IsLiveOrRevoking ((c k).words (Section th.section))
    → pinned_of ((c k).words (Section th.section)) < n → n ≤ th.levels → slice_get ((c k).levels t) (th.levels - n) ≡ Some v
    → HasWrittenSince v (mark_of th n).noted th.log ((writers c acts k).old t) (writers c acts k).word

-- A word that carries a section which is live or revoking, and with nothing pinned, is one that its thread has logged.
abbrev pub CarriedWordsAreLogged : {S : Type 0} → Code S → Type 0
CarriedWordsAreLogged {S} code = (b : Bounds) (is_thread : ℕ → Bool) (first : S) (classes : ℕ) (c : ℕ → Core S) (acts : List Act) → IsWrittenRun code b is_thread first classes c acts
    → (k t p : ℕ) (th : ThreadState S) → k ≤ length acts → (c k).threads t ≡ Some th → 0 < th.section → IsLiveOrRevoking ((c k).words (Section th.section)) → pinned_of ((c k).words (Section th.section)) ≡ 0
    → IsWordPlace is_thread (c k).objects p → tag_section (tag_of (heap_of (c k).words p)) ≡ th.section → notes p th.log ≡ true
