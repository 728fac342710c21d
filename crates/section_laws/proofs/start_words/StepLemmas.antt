-- What a step of a thread makes of start words and of the threads that are about to begin.
use Rattle.std.proofs.Common.{◌≡◌, ◌≢◌, ◌⊎◌, inl, inr, ℕ, ◌+◌, ◌<◌, ◌≤◌, ◌^◌, Bool, true, None, Some, List, length, refl, sym, ◌∙◌, ap, subst, arith}
use Rattle.std.specs.Prelude.{slice_get}
use Rattle.op_core.specs.declared.Op.TheVariants.{Start, Join}
use Rattle.op_core.specs.declared.Next.{Next}
use Rattle.op_core.specs.declared.Next.TheVariants.{Want}
use Rattle.op_core.specs.ThreadCode.{Code}
use Rattle.op_core.specs.OrdinaryState.{set_at, Object}
use Rattle.op_core.proofs.PointwiseLemmas.{same_or_other, set_at-hit, set_at-other}
use Rattle.heap_words.specs.declared.areas.Area.TheVariants.{Control}
use Rattle.heap_words.specs.Words.{value_of}
use Rattle.step_port.specs.declared.answer.StepAnswer.{StepAnswer}
use Rattle.step_port.specs.declared.answer.StepAnswer.TheVariants.{Done}
use Rattle.step_port.specs.declared.step.ThreadWord.{ThreadWord}
use Rattle.step_port.specs.declared.step.Step.{Step}
use Rattle.step_port.specs.declared.step.Step.TheVariants.{DrawThread, StartThread, LoadThread, Split}
use Rattle.step_port.specs.Steps.{effect_of}
use Rattle.step_port.specs.Words.{Words, answer_of}
use Rattle.thread_automaton.specs.declared.Bounds.{Bounds}
use Rattle.thread_automaton.specs.declared.Attempt.{Attempt}
use Rattle.thread_automaton.specs.declared.Attempt.TheVariants.{Fixed}
use Rattle.thread_automaton.specs.ThreadState.{ThreadState, first_state}
use Rattle.thread_automaton.specs.Told.{after_answer}
use Rattle.automaton_rows.specs.Fits.{AttemptFits}
use Rattle.core_runs.specs.Cores.{Core, core_after, threads_by, starting_by}
use Rattle.core_runs.specs.Acts.{Act, did, DidAt}
use Rattle.section_laws.proofs.ClaimLemmas.{found_is}
use Rattle.section_laws.proofs.FactLemmas.{each}
use Rattle.section_laws.proofs.NumberLemmas.{number_at, grows}
use Rattle.section_laws.proofs.RunLemmas.{Known}
use Rattle.section_laws.proofs.run_threads.NumberLemmas.{Numbers}
use Rattle.section_laws.specs.Layout.{IsLaidRun}
use Rattle.section_laws.proofs.run_layout.LaidLemmas.{is_such, NextFits}
use Rattle.section_laws.proofs.run_layout.FillLemmas.{loads_none}
use Rattle.section_laws.proofs.run_layout.RunLemmas.{fits_at}
use Rattle.section_laws.specs.Starts.{IsThreadObject, start_word_of, IsStarted, StartsFit, StartsAreKnown}
use Rattle.section_laws.proofs.start_words.WordLemmas.{value_low, above_zero, is_none, within, known_here, all_fit, StartsAt, StartNow, is_kept, is_set, is_new, start_now, start_change, starting_made}
use Rattle.section_laws.proofs.start_words.AttemptLemmas.{IsStarting, starts_none, draws_number, starts_thread, finds_start, start_steps}

module _ {S : Type 0} (code : Code S) (b : Bounds) (is_thread : ℕ → Bool) (c : ℕ → Core S) (acts : List Act) (run : IsLaidRun code b is_thread c acts)
    (k t : ℕ) (step : Step) (a : StepAnswer) (here : slice_get acts k ≡ Some (did t step a)) (at : DidAt code b c k t step a) where
  abbrev w : Words
  w = (c k).words

  abbrev after : Core S
  after = core_after code b k (c k) t at.from step a

  abbrev IsThread : ℕ → Type 0
  IsThread r = IsThreadObject is_thread (c k).objects r

  abbrev NowAt : ℕ → Type 0
  NowAt r = StartNow code b is_thread c acts run k t step a here at r

  abbrev SetsAt : ℕ → Type 0
  SetsAt r = StartsAt code b is_thread c acts run k t step a here at r

  inside : k < length acts
  inside = within code b is_thread c acts run k t step a here at

  known : Known code (c k)
  known = known_here code b is_thread c acts run k t step a here at

  all : NextFits is_thread (c k).objects (code.next at.from.local)
  all = all_fit code b is_thread c acts run k t step a here at

  now_at : (r : ℕ) → IsThreadObject is_thread after.objects r → NowAt r
  now_at r thread = start_now code b is_thread c acts run k t step a here at r thread

  change_at : (r : ℕ) → IsThread r → (start_word_of after r ≡ start_word_of (c k) r) ⊎ SetsAt r
  change_at r thread = start_change code b is_thread c acts run k t step a here at r thread

  made_at : (r n : ℕ) → step ≡ StartThread r n → (n < 256) × (at.from.attempt ≡ Fixed (StartThread r n))
  made_at r n sets = starting_made code b is_thread c acts run k t step a here at r n sets

  module _ (numbers : Numbers (c k)) (one_drawn : 1 ≤ w (Control 4)) (before : StartsAreKnown code is_thread (c k)) where
    abbrev y : ThreadState S
    y = after_answer code b at.from step a

    own_fit : StartsFit code is_thread (c k) at.from
    own_fit = before.threads t at.from at.stands

    count_up : w (Control 4) ≤ after.words (Control 4)
    count_up = grows step w

    -- a number that no other thread is about to start or to hand out
    others_number : (u : ℕ) (uh : ThreadState S) → u ≢ t → (c k).threads u ≡ Some uh → (r n m : ℕ) → step ≡ StartThread r n → number_at uh.attempt ≡ m → 0 < m → m ≢ n
    others_number u uh other there r n m sets is some same =
        let own = made_at r n sets in
        other (sym (numbers.apart t u at.from uh at.stands there (subst (λ x. 0 < x) (same ∙ sym (ap number_at own.1)) some) (ap number_at own.1 ∙ sym same ∙ sym is)))

    -- ---- who is about to begin

    data Starting (n : ℕ) : Type 0 where
      as_before : after.starting n ≡ (c k).starting n → Starting n
      just_now : (r : ℕ) → step ≡ StartThread r n → after.starting n ≡ Some (code.child at.from.local r) → Starting n

    starting_now : (n : ℕ) → Starting n
    starting_now n = by_step step a refl refl
      where
        by_step : (m : Step) (x : StepAnswer) → step ≡ m → a ≡ x → Starting n
        by_step (StartThread r o) Done is done = elim (same_or_other n o) [
          | inl same ↦ just_now r (is ∙ ap (StartThread r) (sym same)) (ap (λ m. starting_by code m a at.from.local (c k).starting n) is
              ∙ ap (λ x. starting_by code (StartThread r o) x at.from.local (c k).starting n) done
              ∙ subst (λ m. set_at (c k).starting o (Some (code.child at.from.local r)) m ≡ Some (code.child at.from.local r)) (sym same) (set_at-hit (c k).starting o (Some (code.child at.from.local r))))
          | inr other ↦ as_before (ap (λ m. starting_by code m a at.from.local (c k).starting n) is
              ∙ ap (λ x. starting_by code (StartThread r o) x at.from.local (c k).starting n) done ∙ set_at-other (c k).starting o (Some (code.child at.from.local r)) n other)
        ]
        by_step m x is done = as_before (ap (λ s. starting_by code s a at.from.local (c k).starting n) is ∙ ap (λ z. starting_by code m z at.from.local (c k).starting n) done)

    stays_starting : (n : ℕ) → ((r : ℕ) → step ≡ StartThread r n → ⊥) → after.starting n ≡ (c k).starting n
    stays_starting n other = elim (starting_now n) [
      | as_before same ↦ same
      | just_now r sets is ↦ absurd (other r sets)
    ]

    -- a thread that is started stays so
    still_there : (n : ℕ) (th : ThreadState S) → (c k).threads n ≡ Some th → (z : ThreadState S) × (after.threads n ≡ Some z)
    still_there n th there = by_step step
      where
        own_there : (z : ThreadState S) × (set_at (c k).threads t (Some y) n ≡ Some z)
        own_there = elim (same_or_other n t) [
          | inl same ↦ (y, subst (λ m. set_at (c k).threads t (Some y) m ≡ Some y) (sym same) (set_at-hit (c k).threads t (Some y)))
          | inr other ↦ (th, set_at-other (c k).threads t (Some y) n other ∙ there)
        ]

        by_step : (m : Step) → (z : ThreadState S) × (threads_by code m at.from.local (set_at (c k).threads t (Some y)) n ≡ Some z)
        by_step (Split o r p) = elim (same_or_other n o) [
          | inl same ↦ (
            first_state o p (code.child at.from.local r),
            subst (λ m. set_at (set_at (c k).threads t (Some y)) o (Some (first_state o p (code.child at.from.local r))) m ≡ Some (first_state o p (code.child at.from.local r))) (sym same)
                (set_at-hit (set_at (c k).threads t (Some y)) o (Some (first_state o p (code.child at.from.local r)))),
          )
          | inr other ↦ (own_there.0, set_at-other (set_at (c k).threads t (Some y)) o (Some (first_state o p (code.child at.from.local r))) n other ∙ own_there.1)
        ]
        by_step m = own_there

    still_started : (n : ℕ) → IsStarted (c k) n → IsStarted after n
    still_started n (inl (th, there)) = inl (still_there n th there)
    still_started n (inr (l, there)) = elim (starting_now n) [
      | as_before same ↦ inr (l, same ∙ there)
      | just_now r sets is ↦ inr (code.child at.from.local r, is)
    ]

    -- ---- start words

    no_zero : {A : Type 0} (m : ℕ) → 0 < m → m ≡ 0 → A
    no_zero m some none = absurd (no m some none)
      where
        no : (m : ℕ) → 0 < m → m ≡ 0 → ⊥
        no m some none = omega (arith, some, none)

    words_low : (r : ℕ) → NowAt r → start_word_of after r < 2 ^ 8
    words_low r (is_kept thread same) = subst (λ m. m < 2 ^ 8) (sym same) (before.words.low r thread)
    words_low r (is_set thread sets) = subst (λ m. m < 2 ^ 8) (sym sets.is) (made_at r sets.n sets.made).0
    words_low r (is_new none) = omega (arith, none)

    words_started : (r : ℕ) → NowAt r → 0 < start_word_of after r → (start_word_of after r ≤ after.words (Control 4)) × IsStarted after (start_word_of after r)
    words_started r (is_kept thread same) some =
        let was = before.words.started r thread (subst (λ m. 0 < m) same some) in
        let low = was.0 in let more = count_up in
        (omega (arith, same, low, more), subst (IsStarted after) (sym same) (still_started (start_word_of (c k) r) was.1))
    words_started r (is_set thread sets) some =
        let own = made_at r sets.n sets.made in
        let low = numbers.drawn t at.from at.stands in
        let number : number_at at.from.attempt ≡ sets.n = ap number_at own.1 in
        let now = sets.is in let more = count_up in
        (omega (arith, low, number, now, more), subst (IsStarted after) (sym now) (inr (code.child at.from.local r, set_now sets)))
      where
        set_now : (sets : SetsAt r) → after.starting sets.n ≡ Some (code.child at.from.local r)
        set_now sets = ap (λ m. starting_by code m a at.from.local (c k).starting sets.n) sets.made
            ∙ ap (λ x. starting_by code (StartThread r sets.n) x at.from.local (c k).starting sets.n) sets.done ∙ set_at-hit (c k).starting sets.n (Some (code.child at.from.local r))
    words_started r (is_new none) some = no_zero (start_word_of after r) some none

    words_apart : (r q : ℕ) → NowAt r → NowAt q → 0 < start_word_of after r → start_word_of after r ≡ start_word_of after q → r ≡ q
    words_apart r q (is_kept thread same) (is_kept thread_too same_too) some equal = before.words.apart r q thread thread_too (subst (λ m. 0 < m) same some) (sym same ∙ equal ∙ same_too)
    words_apart r q (is_kept thread same) (is_set thread_too sets) some equal =
        absurd ((own_fit.unused q sets.n (made_at q sets.n sets.made).1).2 r thread (sym same ∙ equal ∙ sets.is))
    words_apart r q (is_set thread sets) (is_kept thread_too same_too) some equal =
        absurd ((own_fit.unused r sets.n (made_at r sets.n sets.made).1).2 q thread_too (sym same_too ∙ sym equal ∙ sets.is))
    words_apart r q (is_set thread sets) (is_set thread_too sets_too) some equal = same_object (sym sets.made ∙ sets_too.made)
      where
        object_in : Step → ℕ
        object_in (StartThread o n) = o
        object_in step = 0

        same_object : {m n : ℕ} → StartThread r m ≡ StartThread q n → r ≡ q
        same_object same = ap object_in same
    words_apart r q (is_new none) now some equal = no_zero (start_word_of after r) some none
    words_apart r q now (is_new none) some equal = no_zero (start_word_of after r) some (equal ∙ none)

    -- ---- threads

    -- a number above the count is none that is about to begin, and no start word
    new_number : (n : ℕ) → n ≡ w (Control 4) + 1 → ((r m : ℕ) → step ≡ StartThread r m → ⊥)
        → (2 ≤ n) × (after.starting n ≡ None) × ((q : ℕ) → IsThreadObject is_thread after.objects q → start_word_of after q ≢ n)
    new_number n next starts = (
      omega (arith, next, one_drawn),
      stays_starting n (λ r sets. starts r n sets) ∙ is_none ((c k).starting n) (λ l there. let low = before.drawn n l there in above n (w (Control 4)) next low),
      λ q thread. by_now q (now_at q thread),
    )
      where
        above : (n m : ℕ) → n ≡ m + 1 → n ≤ m → ⊥
        above n m next low = omega (arith, next, low)

        by_now : (q : ℕ) → NowAt q → start_word_of after q ≡ n → ⊥
        by_now q (is_kept thread same) is =
            let low = (before.words.started q thread (subst (λ m. 0 < m) (sym (sym same ∙ is)) (omega (arith, next)))).0 in
            above n (w (Control 4)) next (subst (λ m. m ≤ w (Control 4)) (sym same ∙ is) low)
        by_now q (is_set thread sets) is = starts q sets.n sets.made
        by_now q (is_new none) is = above_none n (w (Control 4)) next (sym none ∙ is)
          where
            above_none : (n m : ℕ) → n ≡ m + 1 → 0 ≡ n → ⊥
            above_none n m next none = omega (arith, next, none)

    other_fit : (u : ℕ) (uh : ThreadState S) → u ≢ t → (c k).threads u ≡ Some uh → StartsFit code is_thread after uh
    other_fit u uh other there =
        let was = before.threads u uh there in
        record {
          unused = λ r n is.
              let so = was.unused r n is in
              let two = so.0 in (
                so.0,
                stays_starting n (λ q sets. others_number u uh other there q n n sets (ap number_at is) (omega (arith, two)) refl) ∙ so.1,
                λ q thread. by_now r n is so.2 (omega (arith, two)) q (now_at q thread),
              );
          begins = λ n r p is.
              let some : 0 < n = above_none u uh there n r p is in
              stays_starting n (λ q sets. others_number u uh other there q n n sets (ap number_at is) some refl) ∙ was.begins n r p is;
          awaited = λ n r is wants.
              let so = was.awaited n r is wants in
              (so.0, kept_word n r so.0 so.1 (is_such ((c k).objects r) (fits_at code b is_thread c acts run k u uh inside there (Join r) wants).2));
        }
      where
        by_now : (r n : ℕ) → uh.attempt ≡ Fixed (StartThread r n) → ((q : ℕ) → IsThread q → start_word_of (c k) q ≢ n) → 0 < n → (q : ℕ) → NowAt q → start_word_of after q ≡ n → ⊥
        by_now r n is unused some q (is_kept thread same) equal = unused q thread (sym same ∙ equal)
        by_now r n is unused some q (is_set thread sets) equal = others_number u uh other there q sets.n n sets.made (ap number_at is) some (sym equal ∙ sets.is)
        by_now r n is unused some q (is_new none) equal = no_zero n some (sym equal ∙ none)

        above_none : (u : ℕ) (uh : ThreadState S) → (c k).threads u ≡ Some uh → (n r p : ℕ) → uh.attempt ≡ Fixed (Split n r p) → 0 < n
        above_none u uh there n r p is =
            by_next (code.next uh.local) (subst (λ g. AttemptFits uh (code.next uh.local) g) is (known.fit u uh there).attempt)
          where
            by_next : (next : Next) → AttemptFits uh next (Fixed (Split n r p)) → 0 < n
            by_next (Want (Start q o)) fits = fits.3
            by_next next fits = absurd fits

        kept_word : (n r : ℕ) → 0 < n → start_word_of (c k) r ≡ n → (o : Object) × ((c k).objects r ≡ Some o) × ((is_thread o.class ≡ true) × (1 < o.words)) → start_word_of after r ≡ n
        kept_word n r some is so = elim (change_at r (so.0, so.1, so.2.0, so.2.1)) [
          | inl same ↦ same ∙ is
          | inr sets ↦ no_zero n some (sym is ∙ sets.was)
        ]

    -- the own thread
    own_after : StartsFit code is_thread after y
    own_after = elim (start_steps code b at.from w step a (known.fit t at.from at.stands).attempt at.move at.answered) [
      | starts_none none ↦ record {
        unused = λ r n is. absurd (none (subst IsStarting (sym is) tt));
        begins = λ n r p is. absurd (none (subst IsStarting (sym is) tt));
        awaited = λ n r is wants. absurd (none (subst IsStarting (sym is) tt));
      }
      | draws_number r p n draws found wants stands ↦
          let count : n ≡ w (Control 4) = found_is n (w (Control 4)) (sym found ∙ at.answered ∙ ap (answer_of w) draws) in
          record {
            unused = λ q m is. new_number m (sym (same_start r (n + 1) q m (sym stands ∙ is)) ∙ ap (λ x. x + 1) count) (λ o x sets. absurd (subst IsDraw (sym draws ∙ sets) tt));
            begins = λ m q o is. absurd (subst IsStart (sym stands ∙ is) tt);
            awaited = λ m q is other. absurd (subst IsStart (sym stands ∙ is) tt);
          }
      | starts_thread r p n sets done wants stands local ↦ record {
        unused = λ q m is. absurd (subst IsSplit (sym stands ∙ is) tt);
        begins = λ m q o is.
            let same = same_split n r p m q o (sym stands ∙ is) in
            ap (λ x. starting_by code x a at.from.local (c k).starting m) sets ∙ ap (λ x. starting_by code (StartThread r n) x at.from.local (c k).starting m) done
            ∙ subst (λ x. set_at (c k).starting n (Some (code.child at.from.local r)) x ≡ Some (code.child at.from.local r)) same.0 (set_at-hit (c k).starting n (Some (code.child at.from.local r)))
            ∙ ap (λ x. Some (code.child at.from.local x)) same.1 ∙ ap (λ l. Some (code.child l q)) (sym local);
        awaited = λ m q is other. absurd (subst IsSplit (sym stands ∙ is) tt);
      }
      | finds_start r v loads found some wants stands local ↦
          let word : v ≡ start_word_of (c k) r = found_is v (start_word_of (c k) r) (sym found ∙ at.answered ∙ ap (answer_of w) loads) in
          let thread = is_such ((c k).objects r) (all (Join r) wants).2 in
          let low = before.words.low r (thread.0, thread.1, thread.2.0, thread.2.1) in
          let value : value_of v ≡ start_word_of (c k) r = ap value_of word ∙ value_low (start_word_of (c k) r) low in
          record {
            unused = λ q m is. absurd (subst IsWait (sym stands ∙ is) tt);
            begins = λ m q o is. absurd (subst IsWait (sym stands ∙ is) tt);
            awaited = λ m q is other.
                let number : value_of v ≡ m = same_wait (value_of v) m (sym stands ∙ is) in
                let object : r ≡ q = same_join r q (sym wants ∙ ap code.next (sym local) ∙ other) in
                let above = above_zero v some in
                (omega (arith, number, value, word, above), ap (λ x. start_word_of after x) (sym object) ∙ loads_none step w (r + 3) (ap effect_of loads) ∙ sym value ∙ number);
          }
    ]
      where
        IsDraw : Step → Type 0
        IsDraw DrawThread = Unit {0}
        IsDraw step = ⊥

        IsStart : Attempt → Type 0
        IsStart (Fixed (StartThread r n)) = Unit {0}
        IsStart attempt = ⊥

        IsSplit : Attempt → Type 0
        IsSplit (Fixed (Split n r p)) = Unit {0}
        IsSplit attempt = ⊥

        IsWait : Attempt → Type 0
        IsWait (Fixed (LoadThread (ThreadWord.Ended n))) = Unit {0}
        IsWait attempt = ⊥

        waited_in : Attempt → ℕ
        waited_in (Fixed (LoadThread (ThreadWord.Ended n))) = n
        waited_in attempt = 0

        same_start : (r m q n : ℕ) → Fixed (StartThread r m) ≡ Fixed (StartThread q n) → m ≡ n
        same_start r m q n same = ap number_at same

        object_in : Attempt → ℕ
        object_in (Fixed (Split n r p)) = r
        object_in attempt = 0

        same_split : (n r p m q o : ℕ) → Fixed (Split n r p) ≡ Fixed (Split m q o) → (n ≡ m) × (r ≡ q)
        same_split n r p m q o same = (ap number_at same, ap object_in same)

        same_wait : (m n : ℕ) → Fixed (LoadThread (ThreadWord.Ended m)) ≡ Fixed (LoadThread (ThreadWord.Ended n)) → m ≡ n
        same_wait m n same = ap waited_in same

        joined_in : Next → ℕ
        joined_in (Want (Join r)) = r
        joined_in next = 0

        same_join : (r q : ℕ) → Want (Join r) ≡ Want (Join q) → r ≡ q
        same_join r q same = ap joined_in same

    threads_fit : (u : ℕ) (uh : ThreadState S) → after.threads u ≡ Some uh → StartsFit code is_thread after uh
    threads_fit u uh there = by_step step there
      where
        own_there : (uh : ThreadState S) → set_at (c k).threads t (Some y) u ≡ Some uh → StartsFit code is_thread after uh
        own_there = each (StartsFit code is_thread after) (c k).threads t y u (λ own. own_after) (λ vh other at_v. other_fit u vh other at_v)

        by_step : (m : Step) → threads_by code m at.from.local (set_at (c k).threads t (Some y)) u ≡ Some uh → StartsFit code is_thread after uh
        by_step (Split n r p) there = each (StartsFit code is_thread after) (set_at (c k).threads t (Some y)) n (first_state n p (code.child at.from.local r)) u
            (λ own. record { unused = λ q m is. absurd (subst IsStarting (sym is) tt); begins = λ m q o is. absurd (subst IsStarting (sym is) tt); awaited = λ m q is wants. absurd (subst IsStarting (sym is) tt) })
            (λ vh other at_v. own_there vh at_v) uh there
        by_step m there = own_there uh there

    drawn_after : (n : ℕ) (l : S) → after.starting n ≡ Some l → n ≤ after.words (Control 4)
    drawn_after n l there = elim (starting_now n) [
      | as_before same ↦ let low = before.drawn n l (sym same ∙ there) in let more = count_up in omega (arith, low, more)
      | just_now r sets is ↦
          let low = numbers.drawn t at.from at.stands in
          let number : number_at at.from.attempt ≡ n = ap number_at (made_at r n sets).1 in
          let more = count_up in
          omega (arith, low, number, more)
    ]

    pub step_starts : StartsAreKnown code is_thread after
    step_starts = record {
      words = record {
        low = λ r thread. words_low r (now_at r thread);
        started = λ r thread some. words_started r (now_at r thread) some;
        apart = λ r q thread thread_too some equal. words_apart r q (now_at r thread) (now_at q thread_too) some equal;
      };
      drawn = drawn_after;
      threads = threads_fit;
    }
