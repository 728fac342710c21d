-- How the words of sections change along a run.
use Rattle.std.specs.Prelude.{◌≡◌, ◌<◌, ◌≤◌, ◌^◌, ℕ, suc, Some, List, length, slice_get}
use Rattle.op_core.specs.ThreadCode.{Code}
use Rattle.heap_words.specs.declared.areas.Area.TheVariants.{Section}
use Rattle.section_state.specs.declared.State.TheVariants.{Live, Revoking}
use Rattle.section_state.specs.SectionWord.{number_of, section_word, state_of, pinned_of, depth_of, revoke_of, with_pinned, with_depth, opened_of, revoked_of, committed_of, undone_of}
use Rattle.step_port.specs.declared.answer.StepAnswer.TheVariants.{Done}
use Rattle.step_port.specs.declared.step.Step.TheVariants.{Pin}
use Rattle.thread_automaton.specs.declared.Bounds.{Bounds}
use Rattle.core_runs.specs.Cores.{Core}
use Rattle.core_runs.specs.Acts.{Act, did}
use Rattle.core_runs.specs.Revoked.{RevokesAt}
use Rattle.section_laws.specs.Runs.{IsRun}
use Rattle.section_laws.specs.OwnWords.{IsInBits}

-- The word of a section stays, or the section is opened by a thread of this number and priority; or a live one is pinned
-- deeper, or revoked to a level that is open and not pinned, or its next level is opened, or it is closed to a level, or
-- committed; or one that was revoked is undone to that level.
pub data Move (old new : ℕ) : Type 0 where
  stays : new ≡ old → Move old new
  opens : (number priority : ℕ) → number < 2 ^ 8 → priority < 2 ^ 8 → old ≡ 0
      → new ≡ section_word (number_of Live) number priority 0 1 0 → Move old new
  pins : (n : ℕ) → state_of old ≡ number_of Live → pinned_of old < n → n < 2 ^ 8 → new ≡ with_pinned old n → Move old new
  revokes : (n : ℕ) → state_of old ≡ number_of Live → pinned_of old < n → n ≤ depth_of old → new ≡ revoked_of old n → Move old new
  opens_level : state_of old ≡ number_of Live → depth_of old < 255 → new ≡ opened_of old → Move old new
  closes_to : (n : ℕ) → state_of old ≡ number_of Live → 0 < n → n < 2 ^ 8 → new ≡ with_depth old n → Move old new
  commits : state_of old ≡ number_of Live → new ≡ committed_of old → Move old new
  undoes : state_of old ≡ number_of Revoking → 0 < revoke_of old → new ≡ undone_of old → Move old new

-- nothing else becomes of it with an act
abbrev pub SectionsMove : {S : Type 0} → Code S → Type 0
SectionsMove {S} code = (b : Bounds) (c : ℕ → Core S) (acts : List Act) → IsRun code b c acts → IsInBits c acts
    → (k s : ℕ) → k < length acts → Move ((c k).words (Section s)) ((c (suc k)).words (Section s))

-- After the act number k the section is pinned to level n at least, and is revoked to none of these levels.
pub record StaysPinned {S : Type 0} (c : ℕ → Core S) (acts : List Act) (k s n : ℕ) : Type 0 where
  pub stays : (j : ℕ) → k < j → j ≤ length acts → n ≤ pinned_of ((c j).words (Section s))
  pub unrevoked : (j m : ℕ) → k < j → RevokesAt acts j s m → n < m

-- so it is with each section that is pinned, by its own thread or by another
abbrev pub PinnedLevelsStay : {S : Type 0} → Code S → Type 0
PinnedLevelsStay {S} code = (b : Bounds) (c : ℕ → Core S) (acts : List Act) → IsRun code b c acts → IsInBits c acts
    → (k t s w n : ℕ) → slice_get acts k ≡ Some (did t (Pin s w n) Done) → StaysPinned c acts k s n
