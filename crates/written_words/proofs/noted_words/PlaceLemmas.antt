-- What a step of a thread makes of a word that is logged.
use Rattle.std.proofs.Common.{◌≡◌, inl, inr, ℕ, suc, ◌+◌, ◌<◌, Bool, true, false, Some, List, length, nat_eq, refl, sym, ◌∙◌, ap, subst, arith}
use Rattle.std.specs.Prelude.{slice_get, if◌then◌else◌}
use Rattle.std.proofs.lemmas.Grind.{common_steps}
use Rattle.std.proofs.lemmas.Bool.Decides.{nat_tests}
use Rattle.std.proofs.lemmas.Option.{same_Some, slice_get_within}
use Rattle.op_core.specs.ThreadCode.{Code}
use Rattle.op_core.specs.OrdinaryState.{Object}
use Rattle.heap_words.specs.declared.areas.Area.{Area}
use Rattle.step_port.specs.declared.answer.StepAnswer.{StepAnswer}
use Rattle.step_port.specs.declared.answer.StepAnswer.TheVariants.{Lost}
use Rattle.step_port.specs.declared.step.ThreadWord.TheVariants.{Start, Ended}
use Rattle.step_port.specs.declared.step.Step.{Step}
use Rattle.step_port.specs.declared.step.Step.TheVariants.{LoadWord, SwapWord, RestoreWord, LoadMonitor, TakeMonitor, SetDepth, Release, SetHeader, StartThread, LoadThread}
use Rattle.step_port.specs.Steps.{place_of}
use Rattle.step_port.specs.Words.{Words, put_at, answer_of, words_after}
use Rattle.thread_automaton.specs.declared.Bounds.{Bounds}
use Rattle.core_runs.specs.Cores.{Core}
use Rattle.core_runs.specs.Acts.{Act, did}
use Rattle.section_laws.specs.Layout.{IsLaidRun, IsWordPlace}
use Rattle.section_laws.specs.Places.{IsInObject}
use Rattle.section_laws.proofs.run_layout.PlaceLemmas.{put_object, stays_or_made, one_place}
use Rattle.section_laws.proofs.run_layout.RunLemmas.{steps_stay, objects_stay, runs_keep_layout}

abbrev place_number : Area → ℕ
place_number (Area.Object n) = n
place_number a = 0

same_number : (m n : ℕ) → nat_eq m n ≡ true → m ≡ n
same_number m n is = grind (arith, common_steps, nat_tests)

-- A step leaves the word at this place, or overwrites it, or puts it back.
pub data WordStep (w : Words) (step : Step) (a : StepAnswer) (q : ℕ) : Type 0 where
  stays_there : words_after step w (Area.Object q) ≡ w (Area.Object q) → WordStep w step a q
  swaps : (old new : ℕ) → step ≡ SwapWord q old new → a ≡ StepAnswer.Done → w (Area.Object q) ≡ old → words_after step w (Area.Object q) ≡ new → WordStep w step a q
  puts : (old : ℕ) → step ≡ RestoreWord q old → words_after step w (Area.Object q) ≡ old → WordStep w step a q

module _ {S : Type 0} (code : Code S) (b : Bounds) (is_thread : ℕ → Bool) (c : ℕ → Core S) (acts : List Act) (run : IsLaidRun code b is_thread c acts)
    (k t : ℕ) (step : Step) (a : StepAnswer) (here : slice_get acts k ≡ Some (did t step a)) (answered : a ≡ answer_of (c k).words step) where
  within : k < length acts
  within = slice_get_within acts k (did t step a) here

  abbrev w : Words
  w = (c k).words

  module _ (q : ℕ) (word : IsWordPlace is_thread (c k).objects q) where
    abbrev On : Step → Type 0
    On m = IsInObject is_thread (c (suc k)).objects m q

    there : (c (suc k)).objects word.r ≡ Some word.o
    there = objects_stay code b is_thread c acts run k (suc k) word.r word.o (omega arith) within word.there

    one : (m : Step) (so : On m) → (so.r ≡ word.r) × (so.number ≡ 2 + word.i)
    one m so =
        let low = word.low in
        let place = so.place in
        let is = word.place in
        one_place (c (suc k)).objects (runs_keep_layout code b is_thread c acts run (suc k) within).apart so.r word.r so.o word.o so.there there so.number (2 + word.i) so.below (omega (arith, low)) (omega (arith, place, is))

    same_object : (m : Step) (so : On m) → so.o ≡ word.o
    same_object m so = same_Some so.o word.o (sym so.there ∙ ap (c (suc k)).objects (one m so).0 ∙ there)

    not_low : {P : Type 0} (m : Step) (so : On m) → so.number < 2 → P
    not_low m so low = absurd (no so.number word.i low (one m so).1)
      where
        no : (n i : ℕ) → n < 2 → n ≡ 2 + i → ⊥
        no n i low is = omega (arith, low, is)

    not_start : {P : Type 0} (m : Step) (so : On m) → so.number ≡ 3 → is_thread so.o.class ≡ true → P
    not_start m so three thread = absurd (word.kept (subst (λ (o : Object). is_thread o.class ≡ true) (same_object m so) thread) (first so.number word.i three (one m so).1))
      where
        first : (n i : ℕ) → n ≡ 3 → n ≡ 2 + i → i ≡ 1
        first n i three is = omega (arith, three, is)

    zero_low : (n : ℕ) → n ≡ 0 → n < 2
    zero_low n is = omega (arith, is)

    one_low : (n : ℕ) → n ≡ 1 → n < 2
    one_low n is = omega (arith, is)

    swapped : (p old new : ℕ) → step ≡ SwapWord p old new → p ≡ q → WordStep w step a q
    swapped p old new is same = by_test (nat_eq (w (Area.Object p)) old) refl
      where
        after : Bool → Words
        after t = if t then put_at w (Area.Object p) new else w

        says : Bool → StepAnswer
        says t = if t then StepAnswer.Done else Lost (w (Area.Object p))

        by_test : (t : Bool) → nat_eq (w (Area.Object p)) old ≡ t → WordStep w step a q
        by_test true found = swaps old new (is ∙ ap (λ n. SwapWord n old new) same) (answered ∙ ap (answer_of w) is ∙ ap says found) (ap (λ n. w (Area.Object n)) (sym same) ∙ same_number (w (Area.Object p)) old found)
            (ap (λ s. words_after s w (Area.Object q)) is ∙ ap (λ t. after t (Area.Object q)) found ∙ ap (λ n. put_at w (Area.Object p) new (Area.Object n)) (sym same) ∙ put_object w p new)
        by_test false lost = stays_there (ap (λ s. words_after s w (Area.Object q)) is ∙ ap (λ t. after t (Area.Object q)) lost)

    put : (p old : ℕ) → step ≡ RestoreWord p old → p ≡ q → WordStep w step a q
    put p old is same = puts old (is ∙ ap (λ n. RestoreWord n old) same) (ap (λ s. words_after s w (Area.Object q)) is ∙ ap (λ n. put_at w (Area.Object p) old (Area.Object n)) (sym same) ∙ put_object w p old)

    made : (m : Step) → step ≡ m → place_of m ≡ Area.Object q → On m → WordStep w step a q
    made (LoadWord p) is place so = stays_there (ap (λ s. words_after s w (Area.Object q)) is)
    made (LoadMonitor r) is place so = stays_there (ap (λ s. words_after s w (Area.Object q)) is)
    made (LoadThread (Start r)) is place so = stays_there (ap (λ s. words_after s w (Area.Object q)) is)
    made (LoadThread (Ended n)) is place so = stays_there (ap (λ s. words_after s w (Area.Object q)) is)
    made (SwapWord p old new) is place so = swapped p old new is (ap place_number place)
    made (RestoreWord p old) is place so = put p old is (ap place_number place)
    made (TakeMonitor r new) is place so = not_low (TakeMonitor r new) so (one_low so.number so.fits)
    made (SetDepth r new) is place so = not_low (SetDepth r new) so (one_low so.number so.fits)
    made (Release r) is place so = not_low (Release r) so (one_low so.number so.fits)
    made (SetHeader r v) is place so = not_low (SetHeader r v) so (zero_low so.number so.fits)
    made (StartThread r n) is place so = not_start (StartThread r n) so so.fits.0 so.fits.1
    made m is place so = absurd so.fits

    pub word_step : WordStep w step a q
    word_step = elim (stays_or_made step w q) [
      | inl same ↦ stays_there same
      | inr place ↦ made step refl place (steps_stay code b is_thread c acts run k t q step a here place)
    ]
