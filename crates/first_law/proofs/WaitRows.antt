-- Acts by which a thread waits and notifies.
use Rattle.std.proofs.Common.{◌≡◌, ◌≢◌, inl, inr, ℕ, suc, ◌+◌, ◌<◌, ◌≤◌, ◌^◌, nat_eq, Bool, true, false, true≢false, Option, None, Some, List, refl, sym, ◌∙◌, ap, subst, arith}
use Rattle.std.specs.Prelude.{if◌then◌else◌}
use Rattle.std.proofs.lemmas.Grind.{common_steps}
use Rattle.std.proofs.lemmas.Bool.Decides.{nat_tests, leb_tells}
use Rattle.std.proofs.lemmas.Option.{same_Some}
use Rattle.op_core.specs.declared.Op.{Op}
use Rattle.op_core.specs.declared.Op.TheVariants.{Wait, Rewake}
use Rattle.op_core.specs.declared.Reply.{Reply}
use Rattle.op_core.specs.declared.Reply.TheVariants.{Woken}
use Rattle.op_core.specs.declared.Next.{Next}
use Rattle.op_core.specs.declared.Next.TheVariants.{Want}
use Rattle.op_core.specs.ThreadCode.{Code}
use Rattle.op_core.specs.OrdinaryState.{set_at, Object, free, held, waits, notified, IsWaitingFor, notified_of, count_of, live, IsOwner, OrdinaryState}
use Rattle.op_core.proofs.PointwiseLemmas.{same_or_other, set_at-hit, set_at-other, set_at-at, set_at-both}
use Rattle.heap_words.specs.declared.areas.Area.{Area}
use Rattle.heap_words.specs.Words.{wait_word, wait_object, wait_state}
use Rattle.step_port.specs.declared.answer.StepAnswer.{StepAnswer}
use Rattle.step_port.specs.declared.answer.StepAnswer.TheVariants.{Found}
use Rattle.step_port.specs.declared.step.Step.{Step}
use Rattle.step_port.specs.declared.step.Step.TheVariants.{Release, LoadWait}
use Rattle.step_port.specs.Steps.{effect_of}
use Rattle.step_port.specs.Words.{Words, words_after}
use Rattle.ordinary_words.specs.Reading.{monitor_of}
use Rattle.thread_automaton.specs.declared.Bounds.{Bounds}
use Rattle.thread_automaton.specs.declared.Attempt.TheVariants.{Fixed}
use Rattle.thread_automaton.specs.ThreadState.{ThreadState, held_as}
use Rattle.thread_automaton.specs.Changes.{Change, replies}
use Rattle.thread_automaton.specs.Answers.{is_waiting_for}
use Rattle.thread_automaton.specs.Told.{after_answer}
use Rattle.automaton_rows.specs.Rows.{IsNoUndoing}
use Rattle.automaton_rows.specs.Undoing.{is_held}
use Rattle.core_runs.specs.Cores.{Core}
use Rattle.core_runs.specs.Acts.{Act}
use Rattle.core_runs.specs.Reading.{waiting_in, ordinary}
use Rattle.section_laws.proofs.WordLemmas.{Exchanged, exchanged, stays_at}
use Rattle.section_laws.proofs.run_threads.NumberLemmas.{threads_are_numbered}
use Rattle.section_laws.proofs.ClaimLemmas.{found_is}
use Rattle.section_laws.proofs.run_layout.PlaceLemmas.{put_object}
use Rattle.first_law.specs.Monitors.{FixedHolds, FixedWaits, WaitsHold, WaitWordSays}
use Rattle.first_law.specs.InPlace.{IsSeenRun}
use Rattle.first_law.proofs.TurnLemmas.{keeps_load, up, words_part, starts_part, monitors_part, classes_part, threads_part, waiting_so}
use Rattle.first_law.proofs.EntryLemmas.{HasEntry, Done, did_at, live_from, then_live, depth_is, event_entry}
use Rattle.first_law.proofs.ReplyLemmas.{kept_entry}
use Rattle.first_law.proofs.WordRows.{all_fit}
use Rattle.first_law.proofs.WaitLemmas.{object_in, state_in, object_low, waiting_none, waiting_parts, waiting_for, notified_for, notified_is, waiting_is}
use Rattle.first_law.proofs.EnterRows.{object_of, fixed_holds, waits_hold}
use Rattle.first_law.proofs.StateLemmas.{differs}
use Rattle.first_law.proofs.MonitorRows.{monitor_entry}
use Rattle.first_law.proofs.MonitorLemmas.{fit_here, held_monitor}

module _ {S : Type 0} (code : Code S) (b : Bounds) (is_thread : ℕ → Bool) (first : S) (classes : ℕ) (c : ℕ → Core S) (acts : List Act) (run : IsSeenRun code b is_thread first classes c acts) (k t : ℕ)
    (th : ThreadState S) where
  abbrev Does : Next → Step → StepAnswer → Change → Type 0
  Does next step a change = Done code b is_thread first classes c acts run k t th next step a change

  abbrev Seen : Step → StepAnswer → Type 0
  Seen step a = HasEntry code b is_thread first classes c acts run k t th step a

  abbrev state : OrdinaryState S
  state = ordinary code is_thread (c k)

  -- ---- a monitor is given up by a wait

  module _ {r : ℕ} (act : Does (Want (Wait r)) (Release r) StepAnswer.Done (Change.waits r)) (at : th.attempt ≡ Fixed (Release r)) where
    known_so : FixedHolds th (Want (Wait r)) (Release r) × FixedWaits (c k) t (Want (Wait r)) (Release r)
    known_so = fixed_holds code b is_thread first classes c acts run k t th act tt (subst IsNoUndoing (sym at) tt)

    there_so : (o : Object) × ((c k).objects r ≡ Some o)
    there_so = object_of code b is_thread first classes c acts run k t th act (Wait r) refl r (λ is. is)

    was_so : state.monitors r ≡ held t (held_as r th.held).depth
    was_so = held_monitor code b is_thread first classes c acts run k t th act r there_so.0 there_so.1 known_so.0

    abbrev y : ThreadState S
    y = after_answer code b th (Release r) StepAnswer.Done

    some_depth : 0 < y.depth
    some_depth = subst (λ d. 0 < d) (sym (depth_is code b is_thread first classes c acts run k t th act)) ((fit_here code b is_thread first classes c acts run k t th act).held.says t r th act.stands known_so.0).1.0

    waits_now : waiting_in (Some y) ((c k).words (Area.Wait t)) ≡ waits r (count_of (state.monitors r))
    waits_now =
        let low = (all_fit code b is_thread first classes c acts run k t th act (Wait r) refl).0 in
        waiting_is y ((c k).words (Area.Wait t)) r some_depth (ap wait_object known_so.1 ∙ object_in r 1 low) (ap wait_state known_so.1 ∙ state_in r 1 low (omega arith))
        ∙ ap (waits r) (depth_is code b is_thread first classes c acts run k t th act ∙ sym (ap count_of was_so))

    pub wait_row : Seen (Release r) StepAnswer.Done
    wait_row = monitor_entry code b is_thread first classes c acts run k t th act r there_so.0 there_so.1 refl (Wait r) Reply.Done free (set_at state.waiting t (waits r (count_of (state.monitors r)))) refl refl
        (subst IsNoUndoing (sym at) tt) tt (all_fit code b is_thread first classes c acts run k t th act (Wait r) refl).1 (subst (IsOwner t) (sym was_so) refl)
        (record { place = refl; over = refl; objects = λ f. refl; starting = λ f. refl; lines = λ xs. refl; threads = λ f. refl })
        (ap (monitor_of (words_after (Release r) (c k).words)) (put_object (c k).words (r + 1) 0))
        (λ u. set_at-both (λ x z. waiting_in x ((c k).words (Area.Wait u)) ≡ z) (c k).threads state.waiting t (Some y) (waits r (count_of (state.monitors r))) u
        (λ own. ap (λ m. waiting_in (Some y) ((c k).words (Area.Wait m))) own ∙ waits_now) (λ other. refl)) refl

  -- ---- a notify

  -- the thread owns the monitor whose object it notifies
  owns_it : {r : ℕ} {step : Step} {a : StepAnswer} {change : Change} (act : Does (Want (Op.Notify r)) step a change) → is_held r th.held ≡ true → IsOwner t (state.monitors r)
  owns_it {r} act holds =
      let there = object_of code b is_thread first classes c acts run k t th act (Op.Notify r) refl r (λ is. is) in
      subst (IsOwner t) (sym (held_monitor code b is_thread first classes c acts run k t th act r there.0 there.1 holds)) refl

  -- whose wait word doesn't say that it waits for the object doesn't
  not_waiting : {next : Next} {step : Step} {a : StepAnswer} {change : Change} (act : Does next step a change) (r u : ℕ) → is_waiting_for r ((c k).words (Area.Wait u)) ≡ false → IsWaitingFor r (state.waiting u) → ⊥
  not_waiting act r u other waiting = by_thread ((c k).threads u) refl
    where
      by_thread : (o : Option (ThreadState S)) → (c k).threads u ≡ o → ⊥
      by_thread None is = subst (IsWaitingFor r) (ap (λ x. waiting_in x ((c k).words (Area.Wait u))) is) waiting
      by_thread (Some uh) is = by_next (code.next uh.local) refl
        where
          holds : WaitsHold uh (code.next uh.local) × WaitWordSays (code.next uh.local) ((c k).words (Area.Wait u))
          holds = (fit_here code b is_thread first classes c acts run k t th act).waits u uh is

          so : IsWaitingFor r (waiting_in (Some uh) ((c k).words (Area.Wait u)))
          so = subst (IsWaitingFor r) (ap (λ x. waiting_in x ((c k).words (Area.Wait u))) is) waiting

          awake_so : uh.depth ≡ 0 → ⊥
          awake_so none = subst (IsWaitingFor r) (waiting_none uh ((c k).words (Area.Wait u)) none) so

          by_next : (next : Next) → code.next uh.local ≡ next → ⊥
          by_next (Want (Rewake q)) wants =
              let both = subst (λ n. WaitsHold uh n × WaitWordSays n ((c k).words (Area.Wait u))) wants holds in
              elim both.1.1 [
                | inl one ↦
                    let object : q ≡ r = subst (IsWaitingFor r) (waiting_is uh ((c k).words (Area.Wait u)) q both.0.0 both.1.0 one) so in
                    true≢false (sym (waiting_for r ((c k).words (Area.Wait u)) (both.1.0 ∙ object) one) ∙ other)
                | inr two ↦ subst (IsWaitingFor r) (notified_is uh ((c k).words (Area.Wait u)) q both.0.0 (notified_for q ((c k).words (Area.Wait u)) both.1.0 two)) so
              ]
          by_next next wants = awake_so (subst (λ n. WaitsHold uh n) wants holds.0)

  -- none has a higher number
  none_above : {next : Next} {step : Step} {a : StepAnswer} {change : Change} (act : Does next step a change) (r u : ℕ) → 256 ≤ u → IsWaitingFor r (state.waiting u) → ⊥
  none_above {step = step} {a = a} act r u high waiting = by_thread ((c k).threads u) refl
    where
      too_high : (u : ℕ) → u < 2 ^ 8 → 256 ≤ u → ⊥
      too_high u low high = omega (arith, low, high)

      by_thread : (o : Option (ThreadState S)) → (c k).threads u ≡ o → ⊥
      by_thread None is = subst (IsWaitingFor r) (ap (λ x. waiting_in x ((c k).words (Area.Wait u))) is) waiting
      by_thread (Some uh) is = too_high u ((threads_are_numbered code b c acts run.levelled.ordered.run run.levelled.numbered k
          (up code b is_thread first classes c acts run k t step a act.here (did_at code b is_thread first classes c acts run k t th act))).low u uh is) high

  pub nobody_row : {r n w : ℕ} → Does (Want (Op.Notify r)) (LoadWait n) (Found w) (replies (Woken 0)) → IsNoUndoing th.attempt → is_waiting_for r w ≡ false → n ≡ 255 → Seen (LoadWait n) (Found w)
  nobody_row {r} {n} {w} act calm other last =
      let known = fixed_holds code b is_thread first classes c acts run k t th act tt calm in
      kept_entry code b is_thread first classes c acts run k t th act (Op.Notify r) (Woken 0) refl refl tt tt (all_fit code b is_thread first classes c acts run k t th act (Op.Notify r) refl).1 (
        owns_it act known.0,
        λ u waiting. elim (leb_tells n u) [
          | inl high ↦ elim (same_or_other u n) [
            | inl here ↦ not_waiting act r u (ap (is_waiting_for r) (ap (λ m. (c k).words (Area.Wait m)) here ∙ sym (found_is w ((c k).words (Area.Wait n)) act.answered)) ∙ other) waiting
            | inr away ↦ none_above act r u (above u n high.1 away last) waiting
          ]
          | inr low ↦ known.1 u low.1 waiting
        ],
      )
      (keeps_load (LoadWait n) (c k).words refl) refl (λ f. refl) (λ f. refl) (λ xs. refl) (λ f. refl) refl
    where
      above : (u n : ℕ) → n ≤ u → u ≢ n → n ≡ 255 → 256 ≤ u
      above u n high away last = omega (arith, high, away, last)

  -- ---- a thread is notified

  module _ {r n w : ℕ} (act : Does (Want (Op.Notify r)) (Step.Notify (suc n) w) StepAnswer.Done (replies (Woken (suc n)))) (calm : IsNoUndoing th.attempt) (waits_so : is_waiting_for r w ≡ true) where
    abbrev notify : Step
    notify = Step.Notify (suc n) w

    abbrev told_words : Words
    told_words = words_after (Step.Notify (suc n) w) (c k).words

    exchange : Exchanged (c k).words (Area.Wait (suc n)) w (wait_word (wait_object w) 2)
    exchange = exchanged (c k).words (Area.Wait (suc n)) w (wait_word (wait_object w) 2) act.answered

    seen_so : FixedHolds th (Want (Op.Notify r)) notify × FixedWaits (c k) t (Want (Op.Notify r)) notify
    seen_so = fixed_holds code b is_thread first classes c acts run k t th act tt calm

    waiter : (uh : ThreadState S) × ((c k).threads (suc n) ≡ Some uh) × (0 < uh.depth)
    waiter = seen_so.1.1 exchange.found

    was_waiting : state.waiting (suc n) ≡ waits r waiter.0.depth
    was_waiting =
        let parts = waiting_parts r w waits_so in
        ap (λ x. waiting_in x ((c k).words (Area.Wait (suc n)))) waiter.1
        ∙ waiting_is waiter.0 ((c k).words (Area.Wait (suc n))) r waiter.2 (ap wait_object exchange.found ∙ parts.0) (ap wait_state exchange.found ∙ parts.1)

    not_own : suc n ≢ t
    not_own same = no waiter.0.depth waiter.2 (ap (λ (z : ThreadState S). z.depth) (same_Some waiter.0 th (sym waiter.1 ∙ ap (c k).threads same ∙ act.stands)) ∙ waits_hold code b is_thread first classes c acts run k t th act)
      where
        no : (d : ℕ) → 0 < d → d ≡ 0 → ⊥
        no d some none = omega (arith, some, none)

    abbrev notifier : ThreadState S
    notifier = after_answer code b th notify StepAnswer.Done

    told_wait : told_words (Area.Wait (suc n)) ≡ wait_word (wait_object w) 2
    told_wait = ap (λ (x : Words). x (Area.Wait (suc n))) exchange.leaves ∙ ap (λ x. if x then wait_word (wait_object w) 2 else (c k).words (Area.Wait (suc n))) (same_number (suc n))
      where
        same_number : (m : ℕ) → nat_eq m m ≡ true
        same_number m = grind (arith, common_steps, nat_tests)

    now_notified : waiting_in (Some waiter.0) (told_words (Area.Wait (suc n))) ≡ notified r waiter.0.depth
    now_notified =
        let parts = waiting_parts r w waits_so in
        ap (waiting_in (Some waiter.0)) told_wait
        ∙ notified_is waiter.0 (wait_word (wait_object w) 2) r waiter.2 (notified_for r (wait_word (wait_object w) 2) (object_in (wait_object w) 2 (object_low w) ∙ parts.0) (state_in (wait_object w) 2 (object_low w) (omega arith)))

    woken_waiting : (u : ℕ) → waiting_in (set_at (c k).threads t (Some notifier) u) (told_words (Area.Wait u)) ≡ set_at state.waiting (suc n) (notified_of (state.waiting (suc n))) u
    woken_waiting u = elim (same_or_other u (suc n)) [
      | inl here ↦ ap (λ m. waiting_in (set_at (c k).threads t (Some notifier) m) (told_words (Area.Wait m))) here
          ∙ ap (λ x. waiting_in x (told_words (Area.Wait (suc n)))) (set_at-other (c k).threads t (Some notifier) (suc n) not_own ∙ waiter.1) ∙ now_notified
          ∙ sym (ap (set_at state.waiting (suc n) (notified_of (state.waiting (suc n)))) here ∙ set_at-hit state.waiting (suc n) (notified_of (state.waiting (suc n))) ∙ ap notified_of was_waiting)
      | inr other ↦ ap (waiting_in (set_at (c k).threads t (Some notifier) u)) (stays_at (effect_of notify) (c k).words (Area.Wait (suc n)) (Area.Wait u) (number_else u other))
          ∙ set_at-at (λ x. waiting_in x ((c k).words (Area.Wait u)) ≡ state.waiting u) (c k).threads t (Some notifier) u
          (λ own. waiting_so code b is_thread first classes c acts run k t notify StepAnswer.Done act.here (did_at code b is_thread first classes c acts run k t th act) notifier th ((c k).words (Area.Wait u))
          (depth_is code b is_thread first classes c acts run k t th act) ∙ ap (λ x. waiting_in x ((c k).words (Area.Wait u))) (sym act.stands ∙ ap (c k).threads (sym own))) (λ away. refl)
          ∙ sym (set_at-other state.waiting (suc n) (notified_of (state.waiting (suc n))) u other)
    ]
      where
        number_else : (u : ℕ) → u ≢ suc n → nat_eq u (suc n) ≡ false
        number_else u other = differs u (suc n) other

    pub woken_row : Seen (Step.Notify (suc n) w) StepAnswer.Done
    woken_row = event_entry code b is_thread first classes c acts run k t th act (Op.Notify r) (Woken (suc n)) refl refl tt tt (all_fit code b is_thread first classes c acts run k t th act (Op.Notify r) refl).1
        (owns_it act seen_so.0, (subst (IsWaitingFor r) (sym was_waiting) refl, λ u low. seen_so.1.0 u (omega (arith, low)))) (record {
          objects = λ q. refl;
          words = λ q i. words_part code b is_thread first classes c acts run k t notify StepAnswer.Done act.here (did_at code b is_thread first classes c acts run k t th act) object q i;
          monitors = λ q. monitors_part code b is_thread first classes c acts run k t notify StepAnswer.Done act.here (did_at code b is_thread first classes c acts run k t th act) q (λ o there. object (q + 1));
          waiting = woken_waiting;
          classes = λ d. classes_part code b is_thread first classes c acts run k t notify StepAnswer.Done act.here (did_at code b is_thread first classes c acts run k t th act)
              (λ d. stays_at (effect_of notify) (c k).words (Area.Wait (suc n)) (Area.Class d) refl) d;
          starts = λ q. starts_part code b is_thread first classes c acts run k t notify StepAnswer.Done act.here (did_at code b is_thread first classes c acts run k t th act) object q;
          threads = λ u. threads_part code b is_thread first classes c acts run k t notify StepAnswer.Done act.here (did_at code b is_thread first classes c acts run k t th act) (live (code.reply th.local (Woken (suc n))))
              (then_live code b is_thread first classes c acts run k t th act ((c k).starting t) (code.reply th.local (Woken (suc n))) (live_from code b is_thread first classes c acts run k t th act) refl) u;
          lines = refl;
        })
      where
        object : (p : ℕ) → words_after (Step.Notify (suc n) w) (c k).words (Area.Object p) ≡ (c k).words (Area.Object p)
        object p = stays_at (effect_of (Step.Notify (suc n) w)) (c k).words (Area.Wait (suc n)) (Area.Object p) refl
