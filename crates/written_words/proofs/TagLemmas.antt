-- What tags say of writers, at one place.
use Rattle.std.proofs.Common.{◌≡◌, inl, inr, ℕ, zero, suc, ◌^◌, ◌<◌, Some, List, [], ◌∷◌, length, take, drop, refl, sym, ◌∙◌, ap, subst, arith}
use Rattle.std.specs.Prelude.{slice_get}
use Rattle.heap_words.specs.declared.areas.Area.TheVariants.{Section}
use Rattle.heap_words.specs.Words.{pack_tag, tag_of, tag_section, tag_level}
use Rattle.write_log.specs.declared.Noted.{Noted}
use Rattle.step_port.specs.declared.answer.StepAnswer.TheVariants.{Done}
use Rattle.step_port.specs.declared.step.Step.{Step}
use Rattle.step_port.specs.declared.step.Step.TheVariants.{OpenSection, SetHeader}
use Rattle.step_port.specs.Words.{Words}
use Rattle.thread_automaton.specs.ThreadState.{nth_or}
use Rattle.core_runs.specs.Cores.{Core}
use Rattle.core_runs.specs.Acts.{Act, did}
use Rattle.section_laws.specs.LevelRun.{In}
use Rattle.section_laws.specs.Known.{IsCommittedOrPinned}
use Rattle.written_words.proofs.noted_words.TagLemmas.{section_is, level_is}
use Rattle.written_words.proofs.noted_words.DidLemmas.{writer}
use Rattle.written_words.specs.Writers.{AreLevelsOf}
use Rattle.written_words.specs.Tags.{TagSays, OldWordSays, OldWordsSay}
use Rattle.written_words.proofs.PlaceLemmas.{one_thread}

-- ---- tags

pub zero_tag : tag_of 0 ≡ 0
unfolding tag_of
zero_tag = refl

level_of_none : tag_level 0 ≡ 0
unfolding tag_level
level_of_none = refl

unpacked : pack_tag 0 0 ≡ 0
unfolding pack_tag
unpacked = refl

module _ {S : Type 0} (c : ℕ → Core S) (acts : List Act) where
  -- without a tag there is no writer
  pub untagged : (writer : List ℕ) (tag : ℕ) → TagSays c acts writer tag → tag ≡ 0 → writer ≡ []
  untagged [] tag says none = refl
  untagged (p ∷ levels) tag says none = absurd (no (tag_level tag) (length levels) says.2 (ap tag_level none ∙ level_of_none))
    where
      no : (l n : ℕ) → l ≡ suc n → l ≡ 0 → ⊥
      no l n is none = omega (arith, is, none)

  -- a writer is levels of the section that its tag names
  pub of_section : (writer : List ℕ) (tag v : ℕ) → TagSays c acts writer tag → In v writer → (t : ℕ) × AreLevelsOf c acts t (tag_section tag) writer × (tag_level tag ≡ length writer)
  of_section [] tag v says there = absurd there
  of_section (p ∷ levels) tag v says there = says

  -- what is written within levels has their tag
  pub says_own : (t s l tag : ℕ) (levels : List ℕ) → AreLevelsOf c acts t s levels → length levels ≡ l → (l ≡ 0 → s ≡ 0) → s < 2 ^ 24 → tag ≡ pack_tag s l → TagSays c acts levels tag
  says_own t s l tag [] are count none low is = is ∙ ap (λ n. pack_tag n l) (none (sym count)) ∙ ap (pack_tag 0) (sym count) ∙ unpacked
  says_own t s l tag (p ∷ levels) are count none low is = (
    t,
    subst (λ n. AreLevelsOf c acts t n (p ∷ levels)) (sym (ap tag_section is ∙ section_is s l low)) are,
    ap tag_level is ∙ level_is s l low ∙ sym count,
  )

  -- ---- old words

  pub old_length : (w : Words) (t : ℕ) (log : List Noted) (old : List (List ℕ)) → OldWordsSay c acts w t log old → length old ≡ length log
  old_length w t [] [] say = refl
  old_length w t [] (o ∷ old) say = absurd say
  old_length w t (x ∷ log) [] say = absurd say
  old_length w t (x ∷ log) (o ∷ old) say = ap suc (old_length w t log old say.1)

  pub old_first : (w : Words) (t : ℕ) (x : Noted) (log : List Noted) (old : List (List ℕ)) → OldWordsSay c acts w t (x ∷ log) old
      → OldWordSays c acts w t (nth_or [] 0 old) (tag_of x.old) × OldWordsSay c acts w t log (drop 1 old)
  old_first w t x log [] say = absurd say
  old_first w t x log (o ∷ old) say = say

  pub old_later : (w w' : Words) (t : ℕ) (log : List Noted) (old : List (List ℕ)) → ((s depth : ℕ) → IsCommittedOrPinned (w (Section s)) depth → IsCommittedOrPinned (w' (Section s)) depth)
      → OldWordsSay c acts w t log old → OldWordsSay c acts w' t log old
  old_later w w' t [] [] on say = tt
  old_later w w' t [] (o ∷ old) on say = absurd say
  old_later w w' t (x ∷ log) [] on say = absurd say
  old_later w w' t (x ∷ log) (o ∷ old) on say = (
    record { says = say.0.says; safe = elim say.0.safe [ inl own ↦ inl own | inr pinned ↦ inr (on (tag_section (tag_of x.old)) (tag_level (tag_of x.old)) pinned) ] },
    old_later w w' t log old on say.1,
  )

-- the levels were opened before act number k
abbrev pub AreBefore : ℕ → List ℕ → Type 0
AreBefore k levels = (v : ℕ) → In v levels → v < k

abbrev pub AllBefore : ℕ → List (List ℕ) → Type 0
AllBefore k [] = Unit {0}
AllBefore k (o ∷ old) = AreBefore k o × AllBefore k old

pub all_later : (k : ℕ) (old : List (List ℕ)) → AllBefore k old → AllBefore (suc k) old
all_later k [] before = tt
all_later k (o ∷ old) before = (λ v there. later v k (before.0 v there), all_later k old before.1)
  where
    later : (v k : ℕ) → v < k → v < suc k
    later v k low = omega (arith, low)

pub all_take : (n k : ℕ) (old : List (List ℕ)) → AllBefore k old → AllBefore k (take n old)
all_take zero k old before = tt
all_take (suc n) k [] before = tt
all_take (suc n) k (o ∷ old) before = (before.0, all_take n k old before.1)

pub all_drop : (k : ℕ) (old : List (List ℕ)) → AllBefore k old → AllBefore k (drop 1 old)
all_drop k [] before = tt
all_drop k (o ∷ old) before = before.1

pub all_first : (k : ℕ) (old : List (List ℕ)) → AllBefore k old → AreBefore k (nth_or [] 0 old)
all_first k [] before v there = absurd there
all_first k (o ∷ old) before v there = before.0 v there

-- ---- the own section

module _ {S : Type 0} (c : ℕ → Core S) (acts : List Act) where
  -- a word with the tag of the own section was written by the own thread
  pub own_levels : ((j k t u s v w : ℕ) → slice_get acts j ≡ Some (did t (OpenSection s v) Done) → slice_get acts k ≡ Some (did u (OpenSection s w) Done) → j ≡ k)
      → (t s tag : ℕ) (levels writer : List ℕ) → 0 < length levels → AreLevelsOf c acts t s levels → TagSays c acts writer tag → tag_section tag ≡ s → AreLevelsOf c acts t (tag_section tag) writer
  own_levels once t s tag [] writer some are says own = absurd (no some)
    where
      no : 0 < 0 → ⊥
      no some = omega (arith, some)
  own_levels once t s tag (q ∷ levels) [] some are says own = tt
  own_levels once t s tag (q ∷ levels) (p ∷ writer) some are says own =
      subst (λ n. AreLevelsOf c acts n (tag_section tag) (p ∷ writer))
      (one_thread c acts once t says.0 s q p levels writer are (subst (λ n. AreLevelsOf c acts says.0 n (p ∷ writer)) own says.1)) says.1

abbrev pub IsHeader : Step → Type 0
IsHeader (SetHeader r w) = Unit {0}
IsHeader step = ⊥
