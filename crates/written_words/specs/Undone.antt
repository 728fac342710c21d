-- Words, and levels that are revoked, along a run.
use Rattle.std.specs.Prelude.{◌≡◌, ◌≢◌, ◌<◌, ◌≤◌, ℕ, suc, Bool, Some, List, length, slice_get}
use Rattle.op_core.specs.declared.Op.TheVariants.{Read}
use Rattle.op_core.specs.declared.Next.TheVariants.{Want}
use Rattle.op_core.specs.declared.Reply.TheVariants.{Value}
use Rattle.op_core.specs.ThreadCode.{Code}
use Rattle.heap_words.specs.Words.{tag_of, tag_section}
use Rattle.heap_words.specs.declared.areas.Area.TheVariants.{Section}
use Rattle.section_state.specs.declared.State.TheVariants.{Undone}
use Rattle.section_state.specs.SectionWord.{number_of, state_of, revoke_of}
use Rattle.step_port.specs.declared.answer.StepAnswer.{StepAnswer}
use Rattle.step_port.specs.declared.answer.StepAnswer.TheVariants.{Done}
use Rattle.step_port.specs.declared.step.Step.{Step}
use Rattle.step_port.specs.declared.step.Step.TheVariants.{SwapWord, MarkUndone}
use Rattle.thread_automaton.specs.declared.Bounds.{Bounds}
use Rattle.thread_automaton.specs.declared.Attempt.TheVariants.{Undoing}
use Rattle.thread_automaton.specs.ThreadState.{ThreadState}
use Rattle.thread_automaton.specs.NextMove.{word_place}
use Rattle.thread_automaton.specs.Told.{advanced, told}
use Rattle.core_runs.specs.Cores.{Core}
use Rattle.core_runs.specs.Acts.{Act, did, mover}
use Rattle.core_runs.specs.Revoked.{levels_from, IsDoomed}
use Rattle.section_laws.specs.LevelRun.{In}
use Rattle.section_laws.specs.Layout.{IsWordPlace}
use Rattle.written_words.specs.Noted.{heap_of}
use Rattle.written_words.specs.Writers.{writers}
use Rattle.written_words.specs.Tags.{IsWrittenRun}

-- Where a level is in the writer of a word, and is revoked, then or later, it is open still: each word that was written in it is
-- put back before it is marked as undone.
abbrev pub DoomedWritersAreOpen : {S : Type 0} → Code S → Type 0
DoomedWritersAreOpen {S} code = (b : Bounds) (is_thread : ℕ → Bool) (first : S) (classes : ℕ) (c : ℕ → Core S) (acts : List Act) → IsWrittenRun code b is_thread first classes c acts
    → (k p v : ℕ) → k ≤ length acts → In v ((writers c acts k).word p) → IsDoomed c acts v → In v ((c k).levels (mover (slice_get acts v)))

-- With this step a thread, which is th, reads the word at place p as others see it, or overwrites it.
pub data Observes {S : Type 0} (code : Code S) (b : Bounds) (th : ThreadState S) (step : Step) (answer : StepAnswer) (p : ℕ) : Type 0 where
  reads : (r i v : ℕ) → code.next th.local ≡ Want (Read r i) → told code b th step answer ≡ advanced (Some (Value v)) → p ≡ word_place r i → Observes code b th step answer p
  overwrites : (old new : ℕ) → step ≡ SwapWord p old new → answer ≡ Done → Observes code b th step answer p

-- What a thread observes wasn't written in a level of another thread that is revoked, then or later.
abbrev pub ObservedLevelsStay : {S : Type 0} → Code S → Type 0
ObservedLevelsStay {S} code = (b : Bounds) (is_thread : ℕ → Bool) (first : S) (classes : ℕ) (c : ℕ → Core S) (acts : List Act) → IsWrittenRun code b is_thread first classes c acts
    → (k t p v : ℕ) (step : Step) (answer : StepAnswer) (th : ThreadState S) → slice_get acts k ≡ Some (did t step answer) → (c k).threads t ≡ Some th → Observes code b th step answer p
    → In v ((writers c acts k).word p) → mover (slice_get acts v) ≢ t → IsDoomed c acts v → ⊥

-- ---- after an undoing

-- Once a thread has marked its section as undone to a level, neither that level nor one further inside is in the writer of a word.
abbrev pub UndoneLevelsAreInNoWriter : {S : Type 0} → Code S → Type 0
UndoneLevelsAreInNoWriter {S} code = (b : Bounds) (is_thread : ℕ → Bool) (first : S) (classes : ℕ) (c : ℕ → Core S) (acts : List Act) → IsWrittenRun code b is_thread first classes c acts
    → (k j t s w seen p v : ℕ) (th : ThreadState S) → slice_get acts k ≡ Some (did t (MarkUndone s w) Done) → (c k).threads t ≡ Some th → th.attempt ≡ Undoing seen → In v (levels_from (revoke_of seen) ((c k).levels t))
    → k < j → j ≤ length acts → In v ((writers c acts j).word p) → ⊥

-- Where a run ends with an act that marks a level of section s as undone, no word that carries s was written in a level that is
-- revoked.
abbrev pub UndoneLevelsHaveWrittenNothing : {S : Type 0} → Code S → Type 0
UndoneLevelsHaveWrittenNothing {S} code = (b : Bounds) (is_thread : ℕ → Bool) (first : S) (classes : ℕ) (c : ℕ → Core S) (acts : List Act) → IsWrittenRun code b is_thread first classes c acts
    → (k t s w p v : ℕ) → suc k ≡ length acts → slice_get acts k ≡ Some (did t (MarkUndone s w) Done) → IsWordPlace is_thread (c (suc k)).objects p
    → tag_section (tag_of (heap_of (c (suc k)).words p)) ≡ s → In v ((writers c acts (suc k)).word p) → IsDoomed c acts v → ⊥

-- From where its outermost level was undone no word carries the section.
abbrev pub UndoneSectionsHaveWrittenNothing : {S : Type 0} → Code S → Type 0
UndoneSectionsHaveWrittenNothing {S} code = (b : Bounds) (is_thread : ℕ → Bool) (first : S) (classes : ℕ) (c : ℕ → Core S) (acts : List Act) → IsWrittenRun code b is_thread first classes c acts
    → (k j t s w seen p : ℕ) (th : ThreadState S) → slice_get acts k ≡ Some (did t (MarkUndone s w) Done) → (c k).threads t ≡ Some th → th.attempt ≡ Undoing seen → revoke_of seen ≡ 1
    → k < j → j ≤ length acts → IsWordPlace is_thread (c j).objects p → tag_section (tag_of (heap_of (c j).words p)) ≡ s → ⊥

-- So no tag names a section that is undone.
abbrev pub TagsNameNoUndoneSection : {S : Type 0} → Code S → Type 0
TagsNameNoUndoneSection {S} code = (b : Bounds) (is_thread : ℕ → Bool) (first : S) (classes : ℕ) (c : ℕ → Core S) (acts : List Act) → IsWrittenRun code b is_thread first classes c acts
    → (k p : ℕ) → k ≤ length acts → IsWordPlace is_thread (c k).objects p → state_of ((c k).words (Section (tag_section (tag_of (heap_of (c k).words p))))) ≢ number_of Undone
