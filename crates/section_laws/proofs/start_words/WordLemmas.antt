-- What a step of a thread makes of start words.
use Rattle.std.proofs.Common.{◌≡◌, ◌≢◌, ◌⊎◌, inl, inr, ℕ, ◌+◌, ◌<◌, ◌≤◌, ◌^◌, Bool, true, false, Option, None, Some, List, length, nat_eq, refl, sym, ◌∙◌, ap, subst, arith}
use Rattle.std.specs.Prelude.{slice_get, if◌then◌else◌}
use Rattle.std.proofs.lemmas.Grind.{common_steps}
use Rattle.std.proofs.lemmas.Bool.Decides.{nat_tests}
use Rattle.std.proofs.lemmas.Option.{same_Some, slice_get_within}
use Rattle.op_core.specs.declared.Op.TheVariants.{New}
use Rattle.op_core.specs.declared.Next.TheVariants.{Want}
use Rattle.op_core.specs.ThreadCode.{Code}
use Rattle.op_core.specs.OrdinaryState.{Object}
use Rattle.heap_words.specs.declared.areas.Area.{Area}
use Rattle.heap_words.specs.Words.{pack, value_of}
use Rattle.step_port.specs.declared.answer.StepAnswer.{StepAnswer}
use Rattle.step_port.specs.declared.answer.StepAnswer.TheVariants.{Done}
use Rattle.step_port.specs.declared.step.Effect.TheVariants.{Load}
use Rattle.step_port.specs.declared.step.ThreadWord.{ThreadWord}
use Rattle.step_port.specs.declared.step.Step.{Step}
use Rattle.step_port.specs.declared.step.Step.TheVariants.{LoadWord, SwapWord, RestoreWord, LoadMonitor, TakeMonitor, SetDepth, Release, SetHeader, StartThread, LoadThread}
use Rattle.step_port.specs.Steps.{place_of, effect_of}
use Rattle.step_port.specs.Words.{Words, put_at, answer_of, words_after}
use Rattle.thread_automaton.specs.declared.Bounds.{Bounds}
use Rattle.thread_automaton.specs.declared.Attempt.TheVariants.{Fixed}
use Rattle.core_runs.specs.Cores.{Core, core_after}
use Rattle.core_runs.specs.Acts.{Act, did, DidAt}
use Rattle.section_laws.proofs.WordLemmas.{stays_at}
use Rattle.section_laws.proofs.RunLemmas.{Known}
use Rattle.section_laws.specs.Layout.{IsLaidRun}
use Rattle.section_laws.specs.Places.{FitsNumber}
use Rattle.section_laws.proofs.run_layout.NameLemmas.{Names, step_names}
use Rattle.section_laws.proofs.run_layout.OwnedLemmas.{new_place}
use Rattle.section_laws.proofs.run_layout.LaidLemmas.{NextFits, size_of, new_object, with_objects}
use Rattle.section_laws.proofs.run_layout.PlaceLemmas.{object_other, put_object, stays_or_made, Place, in_object, in_block, step_place}
use Rattle.section_laws.proofs.run_layout.FillLemmas.{loads_none, same_word, apart_new}
use Rattle.section_laws.proofs.run_layout.RunLemmas.{fits_at, known_at, laid_at}
use Rattle.section_laws.specs.Starts.{IsThreadObject, start_word_of}

pub packed : (n : ℕ) → pack n 0 ≡ n
unfolding pack
packed n = omega arith

pub value_low : (w : ℕ) → w < 2 ^ 8 → value_of w ≡ w
unfolding value_of
value_low w low = omega (arith, low)

pub above_zero : (w : ℕ) → nat_eq w 0 ≡ false → 0 < w
above_zero w is = grind (arith, common_steps, nat_tests)

pub is_none : {A : Type 0} (o : Option A) → ((x : A) → o ≡ Some x → ⊥) → o ≡ None
is_none None other = refl
is_none (Some x) other = absurd (other x refl)

not_word : (thread : Bool) (d : ℕ) → d ≡ 3 → thread ≡ true → (thread ≡ true → d ≢ 3) → ⊥
not_word thread d three is other = other is three

module _ {S : Type 0} (code : Code S) (b : Bounds) (is_thread : ℕ → Bool) (c : ℕ → Core S) (acts : List Act) (run : IsLaidRun code b is_thread c acts)
    (k t : ℕ) (step : Step) (a : StepAnswer) (here : slice_get acts k ≡ Some (did t step a)) (at : DidAt code b c k t step a) where
  pub within : k < length acts
  within = slice_get_within acts k (did t step a) here

  pub up : k ≤ length acts
  up = let low = within in omega (arith, low)

  abbrev w : Words
  w = (c k).words

  abbrev pub after : Core S
  after = core_after code b k (c k) t at.from step a

  pub known_here : Known code (c k)
  known_here = known_at code b is_thread c acts run k up

  pub all_fit : NextFits is_thread (c k).objects (code.next at.from.local)
  all_fit = fits_at code b is_thread c acts run k t at.from within at.stands

  names : Names at.from (code.next at.from.local) at.from.attempt step
  names = step_names code b at.from step (known_here.fit t at.from at.stands).attempt at.move

  abbrev IsThread : ℕ → Type 0
  IsThread r = IsThreadObject is_thread (c k).objects r

  -- the thread has started another with the object at r
  pub record StartsAt (r : ℕ) : Type 0 where
    pub n : ℕ
    pub made : step ≡ StartThread r n
    pub done : a ≡ Done
    pub was : start_word_of (c k) r ≡ 0
    pub is : start_word_of after r ≡ n

  starts_at : (r n : ℕ) → step ≡ StartThread r n → (start_word_of after r ≡ start_word_of (c k) r) ⊎ StartsAt r
  starts_at r n sets = by_test (nat_eq (start_word_of (c k) r) 0) refl
    where
      zero_of : (m : ℕ) → nat_eq m 0 ≡ true → m ≡ 0
      zero_of m is = grind (arith, common_steps, nat_tests)

      by_test : (x : Bool) → nat_eq (start_word_of (c k) r) 0 ≡ x → (start_word_of after r ≡ start_word_of (c k) r) ⊎ StartsAt r
      by_test true is = inr (record {
        n = n;
        made = sets;
        done = at.answered ∙ ap (answer_of w) sets ∙ ap (λ x. if x then Done else StepAnswer.Lost (start_word_of (c k) r)) is;
        was = zero_of (start_word_of (c k) r) is;
        is = ap (λ m. words_after m w (Area.Object (r + 3))) sets ∙ ap (λ x. (if x then put_at w (Area.Object (r + 3)) (pack n 0) else w) (Area.Object (r + 3))) is
            ∙ put_object w (r + 3) (pack n 0) ∙ packed n;
      })
      by_test false is = inl (ap (λ m. words_after m w (Area.Object (r + 3))) sets ∙ ap (λ x. (if x then put_at w (Area.Object (r + 3)) (pack n 0) else w) (Area.Object (r + 3))) is)

  -- a start word stays, or is set by the start of a thread
  pub start_change : (r : ℕ) → IsThread r → (start_word_of after r ≡ start_word_of (c k) r) ⊎ StartsAt r
  start_change r (o, there, thread, some) = elim (stays_or_made step w (r + 3)) [
    | inl stays ↦ inl stays
    | inr made ↦ by_place made (step_place code b is_thread (c 0).objects w (c k).objects (c k).threads (laid_at code b is_thread c acts run k up).0 t at.from at.stands step
        (known_here.fit t at.from at.stands).attempt at.move all_fit (r + 3) made)
  ]
    where
      abbrev_loads : effect_of step ≡ Load → (start_word_of after r ≡ start_word_of (c k) r) ⊎ StartsAt r
      abbrev_loads load = inl (loads_none step w (r + 3) load)

      start_place : (m : Step) → step ≡ m → place_of m ≡ Area.Object (r + 3) → (thread : Bool) → thread ≡ true → FitsNumber thread 3 m → (start_word_of after r ≡ start_word_of (c k) r) ⊎ StartsAt r
      start_place (LoadWord p) is on thread so fits = abbrev_loads (ap effect_of is)
      start_place (SwapWord p old new) is on thread so fits = absurd (not_word thread 3 refl so fits.1)
      start_place (RestoreWord p old) is on thread so fits = absurd (not_word thread 3 refl so fits.1)
      start_place (LoadMonitor q) is on thread so fits = abbrev_loads (ap effect_of is)
      start_place (TakeMonitor q new) is on thread so fits = absurd (no_one 3 fits refl)
        where
          no_one : (d : ℕ) → d ≡ 1 → d ≡ 3 → ⊥
          no_one d one three = omega (arith, one, three)
      start_place (SetDepth q new) is on thread so fits = absurd (no_one 3 fits refl)
        where
          no_one : (d : ℕ) → d ≡ 1 → d ≡ 3 → ⊥
          no_one d one three = omega (arith, one, three)
      start_place (Release q) is on thread so fits = absurd (no_one 3 fits refl)
        where
          no_one : (d : ℕ) → d ≡ 1 → d ≡ 3 → ⊥
          no_one d one three = omega (arith, one, three)
      start_place (StartThread q n) is on thread so fits = starts_at r n (is ∙ ap (λ m. StartThread m n) (same_place q r (ap place_number on)))
        where
          place_number : Area → ℕ
          place_number (Area.Object m) = m
          place_number other = 0

          same_place : (q r : ℕ) → q + 3 ≡ r + 3 → q ≡ r
          same_place q r same = omega (arith, same)
      start_place (LoadThread (ThreadWord.Start q)) is on thread so fits = abbrev_loads (ap effect_of is)
      start_place (SetHeader q v) is on thread so fits = absurd (no_zero 3 fits refl)
        where
          no_zero : (d : ℕ) → d ≡ 0 → d ≡ 3 → ⊥
          no_zero d none three = omega (arith, none, three)
      start_place m is on thread so fits = absurd fits

      by_place : place_of step ≡ Area.Object (r + 3) → Place is_thread (c k).objects at.from (code.next at.from.local) step (r + 3) → (start_word_of after r ≡ start_word_of (c k) r) ⊎ StartsAt r
      by_place made (in_object none so) =
          let same = same_word code b is_thread (c 0).objects w (c k).objects (c k).threads (laid_at code b is_thread c acts run k up).0 t at.from at.stands step a
          (known_here.fit t at.from at.stands).attempt at.move at.answered all_fit so.r r so.o o so.there there so.number 3 so.below (omega (arith, some)) (sym so.place) in
          let object : so.o ≡ o = same_Some so.o o (sym so.there ∙ ap (c k).objects same.0 ∙ there) in
          start_place step refl made (is_thread so.o.class) (ap (λ (x : Object). is_thread x.class) object ∙ thread)
          (subst (λ d. FitsNumber (is_thread so.o.class) d step) same.1 so.fits)
      by_place made (in_block v sets new new_names) = absurd (apart_new code b is_thread (c 0).objects w (c k).objects (c k).threads (laid_at code b is_thread c acts run k up).0 t at.from
          at.stands step a (known_here.fit t at.from at.stands).attempt at.move at.answered all_fit (r + 3) r 3 o new there (omega (arith, some)) refl)

  -- what is so of a start word after the step
  pub data StartNow (r : ℕ) : Type 0 where
    is_kept : IsThread r → start_word_of after r ≡ start_word_of (c k) r → StartNow r
    is_set : IsThread r → StartsAt r → StartNow r
    is_new : start_word_of after r ≡ 0 → StartNow r

  pub start_now : (r : ℕ) → IsThreadObject is_thread after.objects r → StartNow r
  start_now r (o, there, thread, some) =
      with_objects code b is_thread (c 0).objects w (c k).objects (c k).threads (laid_at code b is_thread c acts run k up).0 t at.from at.stands step a
      (known_here.fit t at.from at.stands).attempt at.move at.answered all_fit (λ q p. is_thread p.class ≡ true → 1 < p.words → StartNow q)
      (λ q p old is_one has. elim (start_change q (p, old, is_one, has)) [
        | inl same ↦ is_kept (p, old, is_one, has) same
        | inr sets ↦ is_set (p, old, is_one, has) sets
      ])
      (λ q v m n sets new wants is_one has. is_new (new_zero q v m n sets new wants has)) r o there thread some
    where
      new_zero : (q v m n : ℕ) → step ≡ SetHeader q v → new_place at.from.attempt ≡ Some q → code.next at.from.local ≡ Want (New m n)
          → 1 < (new_object code at.from.local m n).words → start_word_of after q ≡ 0
      new_zero q v m n sets new wants has =
          let size = ap (λ next. size_of code at.from.local next) wants in
          ap (λ s. words_after s w (Area.Object (q + 3))) sets ∙ stays_at (effect_of (SetHeader q v)) w (Area.Object q) (Area.Object (q + 3)) (object_other (q + 3) q (λ same. no q same))
          ∙ (laid_at code b is_thread c acts run k up).1.empty t q at.from at.stands new (q + 3) (omega arith) (omega (arith, size, has))
        where
          no : (q : ℕ) → q + 3 ≡ q → ⊥
          no q same = omega (arith, same)

  -- the thread that starts another was about to
  pub starting_made : (r n : ℕ) → step ≡ StartThread r n → (n < 256) × (at.from.attempt ≡ Fixed (StartThread r n))
  starting_made r n sets = let so = subst (Names at.from (code.next at.from.local) at.from.attempt) sets names in (so.1, so.2)
