-- The thread that has the next turn of a run.
use Rattle.std.proofs.Common.{◌≡◌, ℕ, Bool, true, Option, None, Some, List, [], length, slice_get, refl, sym, ◌∙◌, ap, subst}
use Rattle.std.specs.Prelude.{MatchOption}
use Rattle.std.specs.Option.{option_map}
use Rattle.op_core.specs.ThreadCode.{Code}
use Rattle.schedules.specs.Schedule.{Rest, thread_of, drawn, place_of, order_after, rest_due, rest_after}
use Rattle.schedules.specs.Run.{AreThose, IsPicked, Run, due_of, GetsTurn}
use Rattle.thread_automaton.specs.declared.Bounds.{Bounds}
use Rattle.thread_automaton.specs.ThreadState.{ThreadState}
use Rattle.plain_words.specs.declared.plain.PlainWords.{PlainWords}
use Rattle.thread_moves.specs.declared.thread.JThread.{JThread}
use Rattle.thread_moves.specs.Thread.{thread_of as meant_by}
use Rattle.word_runs.specs.WordTurns.{Progress, is_live, word_turns}
use Rattle.word_machine.specs.Seats.{seat_in}
use Rattle.word_machine.specs.Machine.{threads_in, IsCoreOf}
use Rattle.sched_core.specs.ScheduledRun.{CanGoOn}
use Rattle.sched_core.proofs.RunLemmas.{due_lives, item_first, none_first, after_item, after_pick, live_there, can_seat, those_enabled, picked_can, none_can}
use Rattle.traced_runs.specs.TracedRun.{IsNextOf}

module _ {C S : Type 0} (code : Code S) (state : C → S) (saved : C → List S) (b : Bounds) (words : PlainWords) (places : List (Option (JThread C))) (old : Rest) where
  abbrev meant : JThread C → ThreadState S
  meant = meant_by state saved

  abbrev lives : ℕ → Bool
  lives t = is_live (threads_in meant places t)

  due_same : (run : Run (Progress S)) → IsCoreOf meant words places run.state.core → run.rest ≡ old → due_of (word_turns code b) run ≡ rest_due lives old
  due_same run core same = ap (λ threads. rest_due (λ t. is_live (threads t)) run.rest) core.threads ∙ ap (rest_due lives) same

  -- the thread of the item that is due
  pub item_next : (new : Rest) (t : ℕ) → new ≡ rest_due lives old → option_map thread_of (slice_get new.order 0) ≡ Some t → IsNextOf code meant b words places old (Some t) new
  item_next new t is first =
      let (item, others, order_is, thread_is) = item_first new.order t first in
      let live : lives t ≡ true = ap lives (sym thread_is) ∙ due_lives lives old.order item others (ap (λ (r : Rest). r.order) (sym is) ∙ order_is) in
      let seat = live_there state saved (seat_in places t) live in (
        (seat.0, seat.1),
        λ run core same.
            let due : due_of (word_turns code b) run ≡ new = due_same run core same ∙ sym is in (
              subst (λ order. GetsTurn (word_turns code b) run.state order run.rest.number t) (sym (ap (λ (r : Rest). r.order) due ∙ order_is)) (sym thread_is),
              λ end. ap (λ r. rest_after r end) due ∙ after_item new item others end order_is,
            ),
      )

  -- or the one that is picked, where the order is through
  module _ (mid : Rest) (is : mid ≡ rest_due lives old) (none : option_map thread_of (slice_get mid.order 0) ≡ None) (threads : List ℕ) (those : AreThose (CanGoOn code meant words places) threads) where
    through : (run : Run (Progress S)) → IsCoreOf meant words places run.state.core → run.rest ≡ old → (due_of (word_turns code b) run).order ≡ []
    through run core same = ap (λ (r : Rest). r.order) (due_same run core same ∙ sym is) ∙ none_first mid.order none

    pub none_next : (new : Rest) → threads ≡ [] → IsNextOf code meant b words places old None new
    none_next new empty = (λ t can. none_can code state saved words places t (subst (AreThose (CanGoOn code meant words places)) empty those) can, through)

    pub picked_next : (new : Rest) (t : ℕ) → new ≡ record mid { number = drawn mid.number } → slice_get threads (place_of (drawn mid.number) (length threads)) ≡ Some t → IsNextOf code meant b words places old (Some t) new
    picked_next new t new_is at =
        let can = picked_can code state saved words places threads (place_of (drawn mid.number) (length threads)) t those at in
        let seat = can_seat code state saved words places t can in (
          (seat.0, seat.1),
          λ run core same.
              let due : due_of (word_turns code b) run ≡ mid = due_same run core same ∙ sym is in
              let number : run.rest.number ≡ mid.number = ap (λ (r : Rest). r.number) same ∙ sym (ap (λ (r : Rest). r.number) is) in (
                subst (λ order. GetsTurn (word_turns code b) run.state order run.rest.number t) (sym (through run core same))
                    (subst (λ n. IsPicked ((word_turns code b).enabled run.state) (drawn n) t) (sym number) (record {
                      threads = threads;
                      those = those_enabled code state saved words places b run.state threads core those;
                      at_place = at;
                    })),
                λ end. ap (λ r. rest_after r end) due ∙ after_pick mid end (none_first mid.order none) ∙ ap (λ (r : Rest). record r { order = order_after r.order end }) (sym new_is),
              ),
        )

    pub next_picked : (new : Rest) (next : Option ℕ) → new ≡ record mid { number = drawn mid.number } → MatchOption next (threads ≡ []) (λ t. slice_get threads (place_of (drawn mid.number) (length threads)) ≡ Some t)
        → IsNextOf code meant b words places old next new
    next_picked new None new_is empty = none_next new empty
    next_picked new (Some t) new_is at = picked_next new t new_is at

pub none_due : (o : Option ℕ) → ((t : ℕ) → o ≡ Some t → ⊥) → o ≡ None
none_due None none = refl
none_due (Some t) none = absurd (none t refl)
