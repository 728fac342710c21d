-- Threads, words and levels round a step of a thread.
use Rattle.std.proofs.Common.{◌≡◌, ◌≢◌, inl, inr, ℕ, suc, ◌+◌, ◌<◌, ◌≤◌, Bool, None, Some, List, length, refl, sym, ◌∙◌, ap, subst, arith}
use Rattle.std.specs.Prelude.{slice_get}
use Rattle.std.proofs.lemmas.Option.{same_Some, slice_get_within}
use Rattle.op_core.specs.ThreadCode.{Code}
use Rattle.op_core.specs.OrdinaryState.{Object}
use Rattle.op_core.proofs.PointwiseLemmas.{set_at-hit}
use Rattle.step_port.specs.declared.answer.StepAnswer.{StepAnswer}
use Rattle.step_port.specs.declared.step.Step.{Step}
use Rattle.step_port.specs.declared.step.Step.TheVariants.{SetHeader}
use Rattle.step_port.specs.Steps.{effect_of}
use Rattle.step_port.specs.Words.{CanAnswer}
use Rattle.thread_automaton.specs.declared.Bounds.{Bounds}
use Rattle.thread_automaton.specs.ThreadState.{ThreadState, is_open}
use Rattle.thread_automaton.specs.Changes.{changed}
use Rattle.thread_automaton.specs.Answers.{change_of}
use Rattle.thread_automaton.specs.Told.{told, after_answer}
use Rattle.automaton_rows.proofs.RowLemmas.{answers_are_rows, words_can_answer}
use Rattle.core_runs.specs.Cores.{Core, levels_by}
use Rattle.core_runs.specs.Acts.{Act, did, DidAt}
use Rattle.section_laws.specs.Runs.{IsRun}
use Rattle.section_laws.proofs.RunLemmas.{facts_at}
use Rattle.section_laws.specs.Layout.{IsWordPlace}
use Rattle.section_laws.proofs.run_layout.RunLemmas.{is_new, objects_stay}
use Rattle.first_law.proofs.run_monitors.DidLemmas as dids
use Rattle.first_law.proofs.run_monitors.ThreadLemmas.{object_came}
use Rattle.first_law.proofs.run_monitors.RunLemmas.{so_at}
use Rattle.written_words.specs.Noted.{IsTaggedRun, heap_of}
use Rattle.written_words.proofs.noted_words.TurnLemmas.{SetsNoWord}
use Rattle.written_words.proofs.settled_words.TurnLemmas.{WordTurn, turn_of, counted_turn}
use Rattle.step_port.specs.declared.step.Step.TheVariants.{SwapWord}
use Rattle.heap_words.specs.declared.areas.Area.{Area}
use Rattle.step_port.specs.Steps.{place_of}
use Rattle.step_port.specs.Words.{words_after}
use Rattle.section_laws.proofs.ClaimLemmas.{none_some}
use Rattle.section_laws.proofs.run_layout.PlaceLemmas.{stays_or_made, one_place}
use Rattle.section_laws.proofs.run_layout.RunLemmas.{runs_keep_layout}
use Rattle.written_words.proofs.noted_words.PlaceLemmas.{stays_there, swaps, puts, word_step}

module _ {S : Type 0} (code : Code S) (b : Bounds) (is_thread : ℕ → Bool) (first : S) (classes : ℕ) (c : ℕ → Core S) (acts : List Act) (run : IsTaggedRun code b is_thread first classes c acts) where
  ran : IsRun code b c acts
  ran = run.monitors.levelled.ordered.run

  -- a word of a new object is none of an object that was there
  pub none_there : (k p : ℕ) → k < length acts → (word : IsWordPlace is_thread (c (suc k)).objects p) → IsWordPlace is_thread (c k).objects p → (c k).objects word.r ≡ None → ⊥
  none_there k p within word old none =
      let later = objects_stay code b is_thread c acts run.laid k (suc k) old.r old.o (omega arith) within old.there in
      let place = old.place in
      let place_then = word.place in
      let low = old.low in
      let low_then = word.low in
      let one = one_place (c (suc k)).objects (runs_keep_layout code b is_thread c acts run.laid (suc k) within).apart old.r word.r old.o word.o later word.there (2 + old.i) (2 + word.i)
      (omega (arith, low)) (omega (arith, low_then)) (omega (arith, place, place_then)) in
      none_some old.o (sym none ∙ ap (c k).objects (sym one.0) ∙ old.there)

  module _ (k t : ℕ) (step : Step) (a : StepAnswer) (here : slice_get acts k ≡ Some (did t step a)) (at : DidAt code b c k t step a) where
    pub within : k < length acts
    within = slice_get_within acts k (did t step a) here

    pub up : k ≤ length acts
    up = let low = within in omega (arith, low)

    abbrev pub y : ThreadState S
    y = after_answer code b at.from step a

    abbrev pub levels_then : List ℕ
    levels_then = levels_by k (change_of code b at.from (code.next at.from.local) step a) ((c k).levels t)

    so : dids.So code b first classes c acts run.monitors k
    so = so_at code b first classes c acts run.monitors k up

    pub own_there : (c (suc k)).threads t ≡ Some y
    own_there = ap (λ (core : Core S). core.threads t) at.leads ∙ dids.own_there code b first classes c acts run.monitors k within t step a here at so

    pub own_levels : (c (suc k)).levels t ≡ levels_then
    own_levels = ap (λ (core : Core S). core.levels t) at.leads ∙ set_at-hit (c k).levels t levels_then

    pub turn : WordTurn k (code.next at.from.local) at.from y.log y.marks (is_open y) (told code b at.from step a) ((c k).levels t) levels_then step a
    turn = counted_turn code b at.from k ((c k).levels t) (told code b at.from step a) (told code b at.from step a) (changed code at.from (change_of code b at.from (code.next at.from.local) step a)) levels_then
        (turn_of code b at.from k ((c k).levels t) (answers_are_rows code b at.from step a ((facts_at code b c acts ran k up).fit t at.from at.stands).attempt at.move can) can)
      where
        can : CanAnswer (effect_of step) a
        can = subst (CanAnswer (effect_of step)) (sym at.answered) (words_can_answer (c k).words step)

    -- ---- words of objects

    pub heap_then : (q : ℕ) → heap_of (c (suc k)).words q ≡ words_after step (c k).words (Area.Object q)
    heap_then q = ap (λ (core : Core S). core.words (Area.Object q)) at.leads

    -- a word stays that isn't the one on which the step is made
    pub elsewhere : (p q : ℕ) → place_of step ≡ Area.Object p → q ≢ p → heap_of (c (suc k)).words q ≡ heap_of (c k).words q
    elsewhere p q place other = elim (stays_or_made step (c k).words q) [ inl same ↦ heap_then q ∙ same | inr made ↦ absurd (other (ap number (sym made ∙ place))) ]
      where
        number : Area → ℕ
        number (Area.Object n) = n
        number area = 0

    pub same_word : SetsNoWord step a → (p : ℕ) → IsWordPlace is_thread (c k).objects p → heap_of (c (suc k)).words p ≡ heap_of (c k).words p
    same_word none p word = elim (word_step code b is_thread c acts run.laid k t step a here at.answered p word) [
      | stays_there same ↦ heap_then p ∙ same
      | swaps old new is done found now ↦ absurd (subst (SetsNoWord (SwapWord p old new)) done (subst (λ s. SetsNoWord s a) is none))
      | puts old is now ↦ absurd (subst (λ s. SetsNoWord s a) is none)
    ]

    -- ---- which words there are

    -- a word of an object that was there, or a word 0 of a new object
    pub data Came (p : ℕ) (word : IsWordPlace is_thread (c (suc k)).objects p) : Type 0 where
      was_there : (old : IsWordPlace is_thread (c k).objects p) → old.r ≡ word.r → old.i ≡ word.i → Came p word
      is_new_one : (v : ℕ) → step ≡ SetHeader word.r v → (c k).objects word.r ≡ None → heap_of (c (suc k)).words p ≡ 0 → Came p word

    pub came : (p : ℕ) (word : IsWordPlace is_thread (c (suc k)).objects p) → Came p word
    came p word = elim (object_came code step at.from.local (code.next at.from.local) (c k).objects word.r (word.o, sym (ap (λ (core : Core S). core.objects word.r) at.leads) ∙ word.there)) [
      | inl old ↦ was_there (record {
        r = word.r;
        i = word.i;
        o = word.o;
        there = old.1 ∙ ap Some (same_Some old.0 word.o (sym (objects_stay code b is_thread c acts run.laid k (suc k) word.r old.0 (omega arith) within old.1) ∙ word.there));
        low = word.low;
        place = word.place;
        kept = word.kept;
      }) refl refl
      | inr made ↦
          let new = is_new code b is_thread c acts run.laid k t step a here at word.r made.0 made.1 in
          let low = word.low in
          let place = word.place in
          let size = ap (λ (o : Object). o.words) (same_Some word.o _ (sym word.there ∙ new.3.there)) in
          is_new_one made.0 made.1 new.3.none (new.3.empty p (omega (arith, place)) (omega (arith, place, low, size)))
    ]
