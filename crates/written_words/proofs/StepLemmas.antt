-- Words, logs and writers round a step of a thread.
use Rattle.std.proofs.Common.{◌≡◌, ◌≢◌, inl, inr, ℕ, suc, ◌<◌, ◌≤◌, Bool, true, Option, None, Some, List, [], length, take, refl, sym, ◌∙◌, ap, arith}
use Rattle.std.specs.Prelude.{IsSomeAnd, slice_get}
use Rattle.std.proofs.lemmas.Option.{same_Some, slice_get_within}
use Rattle.op_core.specs.ThreadCode.{Code}
use Rattle.op_core.specs.OrdinaryState.{set_at, Object}
use Rattle.op_core.proofs.PointwiseLemmas.{same_or_other, set_at-hit, set_at-other}
use Rattle.step_port.specs.declared.answer.StepAnswer.{StepAnswer}
use Rattle.step_port.specs.declared.answer.StepAnswer.TheVariants.{Done}
use Rattle.step_port.specs.declared.step.Step.{Step}
use Rattle.step_port.specs.declared.step.Step.TheVariants.{SwapWord, RestoreWord, SetHeader, Split}
use Rattle.thread_automaton.specs.declared.Bounds.{Bounds}
use Rattle.thread_automaton.specs.ThreadState.{ThreadState, first_state}
use Rattle.thread_automaton.specs.NextMove.{word_place}
use Rattle.thread_automaton.specs.Told.{after_answer}
use Rattle.core_runs.specs.Cores.{Core, threads_by}
use Rattle.core_runs.specs.Acts.{Act, did, DidAt}
use Rattle.section_laws.specs.Runs.{IsRun}
use Rattle.section_laws.proofs.section_levels.RunLemmas.{Counted, counted_at}
use Rattle.section_laws.proofs.section_levels.RunLemmas as levels
use Rattle.section_laws.specs.Layout.{Objects, IsWordPlace}
use Rattle.section_laws.proofs.run_layout.RunLemmas.{objects_stay}
use Rattle.first_law.proofs.run_monitors.DidLemmas as dids
use Rattle.first_law.proofs.run_monitors.RunLemmas.{so_at}
use Rattle.written_words.specs.Noted.{IsTaggedRun, heap_of}
use Rattle.written_words.proofs.noted_words.TurnLemmas.{SetsNoWord}
use Rattle.written_words.proofs.settled_words.RoundLemmas as rounds
use Rattle.written_words.specs.Writers.{Writers, writers_after, log_of, writers_by, writers}

-- a word that an operation names is one of an object
pub word_named : (is_thread : ℕ → Bool) (objects : Objects) (r i : ℕ) → IsSomeAnd (objects r) (λ o. i < o.words) → IsSomeAnd (objects r) (λ o. is_thread o.class ≡ true → i ≢ 1) → IsWordPlace is_thread objects (word_place r i)
word_named is_thread objects r i = by_object (objects r) refl
  where
    by_object : (o : Option Object) → objects r ≡ o → IsSomeAnd o (λ x. i < x.words) → IsSomeAnd o (λ x. is_thread x.class ≡ true → i ≢ 1) → IsWordPlace is_thread objects (word_place r i)
    by_object None there low kept = absurd low
    by_object (Some o) there low kept = record { r = r; i = i; o = o; there = there; low = low; place = refl; kept = kept }

-- where no word of an object is overwritten or put back, the writers stay
pub sets_none : (t logged : ℕ) (levels : List ℕ) (step : Step) (a : StepAnswer) (w : Writers) → SetsNoWord step a
    → ((writers_after t levels logged step a w).word ≡ w.word) × ((writers_after t levels logged step a w).old ≡ set_at w.old t (take logged (w.old t)))
sets_none t logged levels (SwapWord at old new) Done w none = absurd none
sets_none t logged levels (RestoreWord at old) a w none = absurd none
sets_none t logged levels step a w none = (refl, refl)

module _ {S : Type 0} (code : Code S) (b : Bounds) (is_thread : ℕ → Bool) (first : S) (classes : ℕ) (c : ℕ → Core S) (acts : List Act) (run : IsTaggedRun code b is_thread first classes c acts)
    (k t : ℕ) (step : Step) (a : StepAnswer) (here : slice_get acts k ≡ Some (did t step a)) (at : DidAt code b c k t step a) where
  ran : IsRun code b c acts
  ran = run.monitors.levelled.ordered.run

  within : k < length acts
  within = slice_get_within acts k (did t step a) here

  up : k ≤ length acts
  up = let low = within in omega (arith, low)

  abbrev y : ThreadState S
  y = after_answer code b at.from step a

  counted : Counted code b first classes c acts run.monitors.levelled (c k)
  counted = counted_at code b first classes c acts run.monitors.levelled k up

  so : dids.So code b first classes c acts run.monitors k
  so = so_at code b first classes c acts run.monitors k up

  -- ---- other threads

  pub others_levels : (u : ℕ) → u ≢ t → (c (suc k)).levels u ≡ (c k).levels u
  others_levels u other = ap (λ (core : Core S). core.levels u) at.leads ∙ levels.other_levels code b first classes c acts run.monitors.levelled k within t step a here at counted u other

  -- Another thread that is there then was there, or begins.
  pub data Other (u : ℕ) (uh : ThreadState S) : Type 0 where
    was_there : (c k).threads u ≡ Some uh → Other u uh
    begins : (number priority : ℕ) (l : S) → (c k).threads u ≡ None → uh ≡ first_state number priority l → Other u uh

  pub other_thread : (u : ℕ) (uh : ThreadState S) → u ≢ t → (c (suc k)).threads u ≡ Some uh → Other u uh
  other_thread u uh other there = by_step step refl (ap (λ (core : Core S). core.threads u) (sym at.leads) ∙ there)
    where
      by_step : (made : Step) → step ≡ made → threads_by code made at.from.local (set_at (c k).threads t (Some (after_answer code b at.from step a))) u ≡ Some uh → Other u uh
      by_step (Split n r p) is there = elim (same_or_other u n) [
        | inl own ↦
            let z : ThreadState S = first_state n p (code.child at.from.local r) in
            let same : uh ≡ z = same_Some uh z (sym there ∙ ap (set_at (set_at (c k).threads t (Some (after_answer code b at.from step a))) n (Some z)) own
            ∙ set_at-hit (set_at (c k).threads t (Some (after_answer code b at.from step a))) n (Some z)) in
            begins n p (code.child at.from.local r) (ap (c k).threads own ∙ dids.new code b first classes c acts run.monitors k within t step a here at so n r p is) same
        | inr apart ↦ was_there (sym (set_at-other (c k).threads t (Some (after_answer code b at.from step a)) u other)
            ∙ sym (set_at-other (set_at (c k).threads t (Some (after_answer code b at.from step a))) n (Some (first_state n p (code.child at.from.local r))) u apart) ∙ there)
      ]
      by_step made is there = was_there (sym (set_at-other (c k).threads t (Some (after_answer code b at.from step a)) u other) ∙ there)

  -- a thread that isn't there then wasn't
  other_gone : (u : ℕ) → u ≢ t → (c (suc k)).threads u ≡ None → log_of ((c k).threads u) ≡ []
  other_gone u other gone = by_step step refl (ap (λ (core : Core S). core.threads u) (sym at.leads) ∙ gone)
    where
      by_step : (made : Step) → step ≡ made → threads_by code made at.from.local (set_at (c k).threads t (Some (after_answer code b at.from step a))) u ≡ None → log_of ((c k).threads u) ≡ []
      by_step (Split n r p) is gone = elim (same_or_other u n) [
        | inl own ↦ ap log_of (ap (c k).threads own ∙ dids.new code b first classes c acts run.monitors k within t step a here at so n r p is)
        | inr apart ↦ ap log_of (sym (set_at-other (c k).threads t (Some (after_answer code b at.from step a)) u other)
            ∙ sym (set_at-other (set_at (c k).threads t (Some (after_answer code b at.from step a))) n (Some (first_state n p (code.child at.from.local r))) u apart) ∙ gone)
      ]
      by_step made is gone = ap log_of (sym (set_at-other (c k).threads t (Some (after_answer code b at.from step a)) u other) ∙ gone)

  pub others_log : (u : ℕ) → u ≢ t → log_of ((c (suc k)).threads u) ≡ log_of ((c k).threads u)
  others_log u other = by_thread ((c (suc k)).threads u) refl
    where
      by_thread : (o : Option (ThreadState S)) → (c (suc k)).threads u ≡ o → log_of ((c (suc k)).threads u) ≡ log_of ((c k).threads u)
      by_thread None is = ap log_of is ∙ sym (other_gone u other is)
      by_thread (Some uh) is = elim (other_thread u uh other is) [
        | was_there there ↦ ap log_of (is ∙ sym there)
        | begins number priority l none new ↦ ap log_of is ∙ ap (λ (x : ThreadState S). x.log) new ∙ sym (ap log_of none)
      ]

  -- ---- words

  -- a word of an object stays one
  pub word_stays : (p : ℕ) → IsWordPlace is_thread (c k).objects p → IsWordPlace is_thread (c (suc k)).objects p
  word_stays p word = record {
    r = word.r;
    i = word.i;
    o = word.o;
    there = objects_stay code b is_thread c acts run.laid k (suc k) word.r word.o (omega arith) within word.there;
    low = word.low;
    place = word.place;
    kept = word.kept;
  }

  -- a word of an object that is there then was there, or is one of a new object
  pub data Came (p : ℕ) : Type 0 where
    old_word : IsWordPlace is_thread (c k).objects p → Came p
    new_word : (r v : ℕ) → step ≡ SetHeader r v → (IsWordPlace is_thread (c k).objects p → ⊥) → heap_of (c (suc k)).words p ≡ 0 → Came p

  pub came : (p : ℕ) → IsWordPlace is_thread (c (suc k)).objects p → Came p
  came p word = elim (rounds.came code b is_thread first classes c acts run k t step a here at p word) [
    | rounds.was_there old same_r same_i ↦ old_word old
    | rounds.is_new_one v sets none is_zero ↦ new_word word.r v sets (λ old. rounds.none_there code b is_thread first classes c acts run k p within word old none) is_zero
  ]

  -- ---- writers

  pub writers_then : writers c acts (suc k) ≡ writers_after t ((c k).levels t) (length y.log) step a (writers c acts k)
  writers_then = ap (λ o. writers_by o (c k) (c (suc k)) (writers c acts k)) here ∙ ap (λ o. writers_after t ((c k).levels t) (length (log_of o)) step a (writers c acts k)) (rounds.own_there code b is_thread first classes c acts run k t step a here at)

  pub others_old : (u : ℕ) → u ≢ t → (writers c acts (suc k)).old u ≡ (writers c acts k).old u
  others_old u other = ap (λ (w : Writers). w.old u) writers_then ∙ by_step step a
    where
      by_step : (made : Step) (answer : StepAnswer) → (writers_after t ((c k).levels t) (length y.log) made answer (writers c acts k)).old u ≡ (writers c acts k).old u
      by_step (SwapWord p old new) Done = set_at-other (writers c acts k).old t _ u other
      by_step (RestoreWord p old) answer = set_at-other (writers c acts k).old t _ u other
      by_step made answer = set_at-other (writers c acts k).old t _ u other
