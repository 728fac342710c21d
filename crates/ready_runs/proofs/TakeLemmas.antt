-- How many words are taken for objects along a run: the heap, and what threads have asked for that met its limit.
use Rattle.std.proofs.Common.{◌≡◌, Bool, ◌⊎◌, inl, inr, ℕ, suc, ◌+◌, ◌*◌, ◌^◌, ◌<◌, ◌≤◌, true, Option, None, Some, List, length, refl, sym, ◌∙◌, ap, subst, arith}
use Rattle.std.specs.Prelude.{slice_get, nat_le}
use Rattle.std.proofs.lemmas.Grind.{common_steps}
use Rattle.std.proofs.lemmas.Bool.Decides.{nat_tests}
use Rattle.std.proofs.lemmas.Option.{slice_get_within}
use Rattle.op_core.specs.declared.Limit.TheVariants.{Heap}
use Rattle.op_core.specs.declared.Op.{Op}
use Rattle.op_core.specs.declared.Op.TheVariants.{New, Print, InitDone, End}
use Rattle.op_core.specs.declared.Next.{Next}
use Rattle.op_core.specs.declared.Next.TheVariants.{Want}
use Rattle.op_core.specs.ThreadCode.{Code}
use Rattle.op_core.specs.OrdinaryState.{set_at}
use Rattle.op_core.specs.Orderly.{CanStand, IsOrderly}
use Rattle.heap_words.specs.declared.areas.Area.TheVariants.{Control}
use Rattle.step_port.specs.declared.answer.StepAnswer.{StepAnswer}
use Rattle.step_port.specs.declared.answer.StepAnswer.TheVariants.{Found, Lost}
use Rattle.step_port.specs.declared.step.Step.{Step}
use Rattle.step_port.specs.declared.step.Step.TheVariants.{TakeWords, LoadThread}
use Rattle.step_port.specs.Steps.{place_of, effect_of}
use Rattle.step_port.specs.Words.{Words, CanAnswer, answer_of, words_after}
use Rattle.thread_automaton.specs.declared.Bounds.{Bounds}
use Rattle.thread_automaton.specs.declared.Attempt.{Attempt}
use Rattle.thread_automaton.specs.declared.Attempt.TheVariants.{Full}
use Rattle.thread_automaton.specs.declared.Move.TheVariants.{Quiet, Make}
use Rattle.thread_automaton.specs.ThreadState.{ThreadState, is_open}
use Rattle.thread_automaton.specs.NextMove.{own_pin, first_step, next_move}
use Rattle.thread_automaton.specs.Changes.{Change, goes, changed}
use Rattle.thread_automaton.specs.Answers.{change_of}
use Rattle.thread_automaton.specs.Told.{Told, advanced, born, told, counted_for, after_answer, after_quiet}
use Rattle.automaton_rows.specs.Fits.{FixedFits, AttemptFits}
use Rattle.automaton_rows.specs.Rows.{Row, is_lost, has_room, heap_full}
use Rattle.automaton_rows.proofs.RowLemmas.{answers_are_rows, words_can_answer, by_if}
use Rattle.core_runs.specs.OwnParts.{is_beside}
use Rattle.core_runs.specs.Cores.{Core, threads_by}
use Rattle.core_runs.specs.Acts.{Act, quiet, did, beside, DidAt, ActAt}
use Rattle.section_laws.proofs.WordLemmas.{stays_at}
use Rattle.section_laws.proofs.RunLemmas.{along, facts_at}
use Rattle.section_laws.specs.Numbers.{AreNumbered}
use Rattle.section_laws.specs.Layout.{Objects, IsLaidRun}
use Rattle.section_laws.proofs.run_layout.LaidLemmas.{NextFits}
use Rattle.ready_runs.proofs.MoveLemmas.{of_step}
use Rattle.ready_runs.proofs.SumLemmas.{sum_below, sum_rises, sum_rises_by, sum_is_low, of_thread, sum_up, sum_up_by}
use Rattle.ready_runs.proofs.CountLemmas.{overdrawn, none_overdrawn}
use Rattle.ready_runs.proofs.DrawLemmas.{all_up, one_up, quiet_up, handed_new, number_low}

-- ---- what a step takes

abbrev pub takes : Step → ℕ
takes (TakeWords n) = n
takes step = 0

taken_after : (step : Step) (w : Words) → words_after step w (Control 2) ≡ w (Control 2) + takes step
taken_after (TakeWords n) w = omega arith
taken_after (LoadThread which) w = omega arith
taken_after step w = let same = stays_at (effect_of step) w (place_of step) (Control 2) refl in omega (arith, same)

beside_takes : (step : Step) → is_beside step ≡ true → takes step ≡ 0
beside_takes (TakeWords n) is = cc
beside_takes step is = refl

-- fewer than 2^41 words are taken for one object
abbrev pub TakesFew : Step → Type 0
TakesFew (TakeWords n) = n ≤ 2 ^ 41
TakesFew step = Unit {0}

module _ {S : Type 0} (code : Code S) (b : Bounds) (th : ThreadState S) where
  module _ (first : S) (classes : ℕ) (orderly : IsOrderly code first classes) (can : CanStand code first th.local) (is_thread : ℕ → Bool) (objects : Objects) (all : NextFits is_thread objects (code.next th.local)) where
    fixed_few : (next : Next) (step : Step) → FixedFits th next step → TakesFew step
    fixed_few (Want (New c n)) (TakeWords m) fits = absurd fits
    fixed_few next (TakeWords n) fits = absurd fits
    fixed_few next step fits = tt

    first_few : (op : Op) → code.next th.local ≡ Want op → TakesFew (first_step code th op)
    first_few (New c n) wants = let few = orderly.small th.local c n can wants (all (New c n) wants).0 in omega (arith, few)
    first_few (Print x) wants = by_if TakesFew (is_open th) (own_pin th) _ (λ yes. tt) (λ no. tt)
    first_few (InitDone c ok) wants = by_if TakesFew (is_open th) (own_pin th) _ (λ yes. tt) (λ no. tt)
    first_few (End x) wants = by_if TakesFew (is_open th) (own_pin th) _ (λ yes. tt) (λ no. tt)
    first_few op wants = tt

    pub takes_few : (step : Step) → AttemptFits th (code.next th.local) th.attempt → next_move code b th ≡ Make step → TakesFew step
    takes_few step fits makes = of_step code b th TakesFew tt tt (λ st at. fixed_few (code.next th.local) st (subst (AttemptFits th (code.next th.local)) at fits)) (λ s level at. tt)
        (λ at old. tt) (λ r new. tt) (λ r. tt) (λ w. tt) first_few step makes

  -- ---- the words are those of an object, or the thread has met the limit

  abbrev Fills : Step → StepAnswer → Change → Type 0
  Fills (TakeWords n) (Found taken) change = (taken + n ≤ b.limits.heap) ⊎ (change ≡ goes (Full Heap))
  Fills step a change = Unit {0}

  lost_fills : (step : Step) (v : ℕ) (change : Change) → Fills step (Lost v) change
  lost_fills (TakeWords n) v change = tt
  lost_fills step v change = tt

  within_heap : (n heap : ℕ) → nat_le n heap ≡ true → n ≤ heap
  within_heap n heap is = grind (arith, common_steps, nat_tests)

  row_fills : {next : Next} {step : Step} {a : StepAnswer} {change : Change} → Row code b th next step a change → Fills step a change
  row_fills (is_lost {step = step} {v = v}) = lost_fills step v _
  row_fills (has_room room) = inl (within_heap _ b.limits.heap room)
  row_fills (heap_full full) = inr refl
  row_fills row = tt

  same_attempt : (told : Told) (y : ThreadState S) → overdrawn (counted_for told y).attempt ≡ overdrawn y.attempt
  same_attempt (advanced None) y = refl
  same_attempt (advanced (Some reply)) y = refl
  same_attempt born y = refl
  same_attempt other y = refl

  abbrev change_by : Step → StepAnswer → Change
  change_by step a = change_of code b th (code.next th.local) step a

  -- so it is with each step
  pub fills_or_overdraws : (w : Words) (step : Step) (a : StepAnswer) → AttemptFits th (code.next th.local) th.attempt → next_move code b th ≡ Make step → TakesFew step → a ≡ answer_of w step
      → (w (Control 2) + takes step ≤ b.limits.heap) ⊎ (overdrawn th.attempt + takes step ≤ overdrawn (after_answer code b th step a).attempt)
  fills_or_overdraws w step a fits makes few answered = by_step step refl
    where
      none : overdrawn th.attempt ≡ 0
      none = none_overdrawn code b th (Make step) makes tt

      fills : Fills step a (change_by step a)
      fills = row_fills (answers_are_rows code b th step a fits makes (subst (CanAnswer (effect_of step)) (sym answered) (words_can_answer w step)))

      full : change_by step a ≡ goes (Full Heap) → overdrawn (after_answer code b th step a).attempt ≡ 2 ^ 41
      full is = same_attempt (told code b th step a) (changed code th (change_by step a)) ∙ ap (λ x. overdrawn (changed code th x).attempt) is

      more : (m n p : ℕ) → m ≡ 0 → n ≤ 2 ^ 41 → p ≡ 2 ^ 41 → m + n ≤ p
      more m n p none few is = omega (arith, none, few, is)

      no_more : (m p : ℕ) → m ≡ 0 → m + 0 ≤ p
      no_more m p none = omega (arith, none)

      by_step : (s : Step) → step ≡ s → (w (Control 2) + takes step ≤ b.limits.heap) ⊎ (overdrawn th.attempt + takes step ≤ overdrawn (after_answer code b th step a).attempt)
      by_step (TakeWords n) is =
          let found : a ≡ Found (w (Control 2)) = answered ∙ ap (answer_of w) is in
          let so : Fills (TakeWords n) (Found (w (Control 2))) (change_by step a) = subst (λ x. Fills (TakeWords n) x (change_by step a)) found (subst (λ s. Fills s a (change_by step a)) is fills) in
          elim so [
            | inl low ↦ inl (subst (λ s. w (Control 2) + takes s ≤ b.limits.heap) (sym is) low)
            | inr met ↦ inr (more (overdrawn th.attempt) (takes step) (overdrawn (after_answer code b th step a).attempt) none
                (subst (λ s. takes s ≤ 2 ^ 41) (sym is) (subst TakesFew is few)) (full met))
          ]
      by_step s is = inr (subst (λ s. overdrawn th.attempt + takes s ≤ overdrawn (after_answer code b th step a).attempt) (sym is) (no_more (overdrawn th.attempt) (overdrawn (after_answer code b th step a).attempt) none))

-- ---- along a run

abbrev overdrawn_by : {S : Type 0} → ThreadState S → ℕ
overdrawn_by th = overdrawn th.attempt

module _ {S : Type 0} (code : Code S) (b : Bounds) (is_thread : ℕ → Bool) (c : ℕ → Core S) (acts : List Act) (run : IsLaidRun code b is_thread c acts) (numbers : AreNumbered (c 0))
    (few : (k t : ℕ) (th : ThreadState S) (step : Step) → k < length acts → (c k).threads t ≡ Some th → next_move code b th ≡ Make step → TakesFew step) where
  abbrev overdrawn_in : ℕ → ℕ → ℕ
  overdrawn_in k u = of_thread overdrawn_by ((c k).threads u)

  abbrev CoreTaken : Core S → Type 0
  CoreTaken core = core.words (Control 2) ≤ b.limits.heap + sum_below (λ u. of_thread overdrawn_by (core.threads u)) 256

  did_taken : (k t : ℕ) (step : Step) (a : StepAnswer) → slice_get acts k ≡ Some (did t step a) → DidAt code b c k t step a → CoreTaken (c k) → CoreTaken (c (suc k))
  did_taken k t step a here at before = subst CoreTaken (sym at.leads) (elim (fills_or_overdraws code b at.from (c k).words step a ((facts_at code b c acts run.run k low).fit t at.from at.stands).attempt at.move
      (few k t at.from step within at.stands at.move) at.answered) [
        | inl room ↦ in_heap ((c k).words (Control 2) + takes step) b.limits.heap _ (words_after step (c k).words (Control 2)) room (taken_after step (c k).words)
        | inr more ↦ sum_up_by ((c k).words (Control 2)) b.limits.heap _ _ (takes step) _ before
            (sum_rises_by (overdrawn_in k) (λ u. of_thread overdrawn_by (threads_by code step at.from.local (set_at (c k).threads t (Some (after_answer code b at.from step a))) u))
            (all_up code overdrawn_by (c k).threads t at.from (after_answer code b at.from step a) at.stands (takes step) more step (handed_new code b c acts run.run numbers k t step a here)) t (takes step)
            (one_up code overdrawn_by (c k).threads t at.from (after_answer code b at.from step a) at.stands (takes step) more step (handed_new code b c acts run.run numbers k t step a here)) 256
            (number_low code b c acts run.run numbers k t at.from low at.stands)) (taken_after step (c k).words)
      ])
    where
      within : k < length acts
      within = slice_get_within acts k (did t step a) here

      low : k ≤ length acts
      low = omega (arith, within)

      in_heap : (n heap sum after : ℕ) → n ≤ heap → after ≡ n → after ≤ heap + sum
      in_heap n heap sum after room is = omega (arith, room, is)

  act_taken : (k : ℕ) (x : Act) → slice_get acts k ≡ Some x → ActAt code b c k x → CoreTaken (c k) → CoreTaken (c (suc k))
  act_taken k (quiet t) here at before = subst CoreTaken (sym at.leads) (sum_up ((c k).words (Control 2)) b.limits.heap _ _ before
      (sum_rises (overdrawn_in k) (λ u. of_thread overdrawn_by (set_at (c k).threads t (Some (after_quiet at.from at.local)) u))
      (quiet_up code overdrawn_by (c k).threads t at.from (after_quiet at.from at.local) at.stands 0
      (none_more (overdrawn at.from.attempt) (none_overdrawn code b at.from Quiet at.move tt))) 256))
    where
      none_more : (m : ℕ) → m ≡ 0 → m + 0 ≤ 0
      none_more m none = omega (arith, none)
  act_taken k (did t step a) here at before = did_taken k t step a here at before
  act_taken k (beside t step a) here at before = subst CoreTaken (sym at.leads) (subst (λ n. n ≤ b.limits.heap + sum_below (overdrawn_in k) 256) (sym (same step at.is)) before)
    where
      same : (s : Step) → is_beside s ≡ true → words_after s (c k).words (Control 2) ≡ (c k).words (Control 2)
      same s is = let after = taken_after s (c k).words in let none = beside_takes s is in omega (arith, after, none)

  -- so many are taken at most
  pub taken_low : (c 0).words (Control 2) ≤ b.limits.heap → (k : ℕ) → k ≤ length acts → (c k).words (Control 2) ≤ b.limits.heap + 256 * 2 ^ 41
  taken_low begins k within =
      let taken = along code b c acts run.run.leads (λ n. CoreTaken (c n)) (omega (arith, begins)) (λ n x here at before. act_taken n x here at before) k within in
      let sum = sum_is_low (overdrawn_in k) (2 ^ 41) each_low 256 in
      omega (arith, taken, sum)
    where
      by_attempt : (g : Attempt) → overdrawn g ≤ 2 ^ 41
      by_attempt (Full Heap) = omega arith
      by_attempt g = omega arith

      by_thread : (o : Option (ThreadState S)) → of_thread overdrawn_by o ≤ 2 ^ 41
      by_thread None = omega arith
      by_thread (Some th) = by_attempt th.attempt

      each_low : (u : ℕ) → overdrawn_in k u ≤ 2 ^ 41
      each_low u = by_thread ((c k).threads u)
