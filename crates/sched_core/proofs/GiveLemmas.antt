-- A silent turn in memory is a turn of the run, and so is a turn where all is as before.
use Rattle.std.proofs.Common.{◌≡◌, ℕ, zero, suc, ◌<◌, ◌≤◌, Option, None, Some, List, is_some, true, refl, sym, ◌∙◌, ap, subst, arith}
use Rattle.std.specs.Option.{option_map}
use Rattle.op_core.specs.declared.thread_code.ThreadCode.{Ghosts}
use Rattle.op_core.specs.ThreadCode.{Code}
use Rattle.op_core.specs.OrdinaryState.{set_at}
use Rattle.schedules.specs.declared.order.TurnEnd.{TurnEnd}
use Rattle.schedules.specs.declared.order.TurnEnd.TheVariants as ends
use Rattle.thread_automaton.specs.declared.Bounds.{Bounds}
use Rattle.thread_automaton.specs.ThreadState.{ThreadState}
use Rattle.plain_words.specs.declared.plain.PlainWords.{PlainWords}
use Rattle.plain_words.specs.Table.{words_in}
use Rattle.thread_moves.specs.declared.thread.JThread.{JThread}
use Rattle.thread_automaton.specs.Told.{after_quiet}
use Rattle.thread_moves.specs.Thread.{thread_of}
use Rattle.word_runs.specs.WordTurns.{GivesBy, GivesQuiet, after_silent, word_turns}
use Rattle.word_machine.specs.declared.machine.WordMachine.{WordMachine}
use Rattle.word_machine.specs.Machine.{threads_in, IsCoreOf}
use Rattle.word_machine.specs.Seats.{seat_in}
use Rattle.word_machine.specs.Silent.{MakesQuiet}
use Rattle.word_machine.specs.Turns.{CanTurnOn, GivesTurn}
use Rattle.sched_core.specs.declared.word_run.WordRun.{WordRun}
use Rattle.sched_core.specs.ScheduledRun.{IsPlaceOf, IsSame, GivesPlace}

-- ---- a thread that is there as before

module _ {C S : Type 0} (meant : JThread C → ThreadState S) where
  both_there : (seat old : Option (JThread C)) → option_map meant seat ≡ option_map meant old → is_some old ≡ true → is_some seat ≡ true
  both_there (Some x) old same there = refl
  both_there None (Some y) same there = absurd (cc)
  both_there None None same there = there

  some_before : (x : JThread C) (old : Option (JThread C)) → Some (meant x) ≡ option_map meant old → (y : JThread C) × (old ≡ Some y) × (meant y ≡ meant x)
  some_before x None same = absurd (cc)
  some_before x (Some y) same = (y, refl, cc)

  module _ (places seated : List (Option (JThread C))) (t : ℕ) (same : threads_in meant seated ≡ threads_in meant places) where
    pub still_there : is_some (seat_in places t) ≡ true → is_some (seat_in seated t) ≡ true
    still_there = both_there (seat_in seated t) (seat_in places t) (ap (λ f. f t) same)

    pub there_before : (x : JThread C) → seat_in seated t ≡ Some x → (y : JThread C) × (seat_in places t ≡ Some y) × (meant y ≡ meant x)
    there_before x here = some_before x (seat_in places t) (ap (option_map meant) (sym here) ∙ ap (λ f. f t) same)

-- ---- turns

module _ {C S : Type 0} (code : Code S) (meant : JThread C → ThreadState S) (b : Bounds) (words after : PlainWords) (places placed : List (Option (JThread C))) (t : ℕ) where
  -- one silent turn comes to Other
  pub silent_turn : (n : ℕ) → 0 < n → n ≤ 1 → after ≡ words → MakesQuiet code b n (threads_in meant places t) (threads_in meant placed t)
      → threads_in meant placed ≡ set_at (threads_in meant places) t (threads_in meant placed t) → GivesTurn code meant b words places t ends.Other after placed
  silent_turn zero some few same made others = absurd (omega (arith, some))
  silent_turn (suc (suc n)) some few same made others = absurd (omega (arith, few))
  silent_turn (suc zero) some few same made others = by_thread (threads_in meant places t) refl made
    where
      by_thread : (th : Option (ThreadState S)) → threads_in meant places t ≡ th → MakesQuiet code b 1 th (threads_in meant placed t) → GivesTurn code meant b words places t ends.Other after placed
      by_thread None at (none, is) = absurd (omega (arith, none))
      by_thread (Some th) at (last, (before, as_before, turn), is) = λ r core. (
        after_silent r t before turn.local,
        (
          before,
          ap (λ f. f t) core.threads ∙ at ∙ ap Some (sym as_before),
          subst (λ m. GivesBy code b r t before m ends.Other (after_silent r t before turn.local)) (sym turn.moves)
              (subst (λ quiet. GivesQuiet r t before quiet ends.Other (after_silent r t before turn.local)) (sym turn.quiet) (refl, refl)),
        ),
        record {
          words = core.words ∙ ap words_in (sym same);
          threads = ap (λ f. set_at f t (Some (after_quiet before turn.local))) core.threads ∙ ap (set_at (threads_in meant places) t) (ap Some (sym turn.goes) ∙ sym is) ∙ sym others;
        },
      )

-- ---- where all is as before

-- a turn from there is a turn from before
pub given_from : {C S : Type 0} {G : Ghosts C} (code : Code S) (meant : JThread C → ThreadState S) (old mid new : WordMachine C G) (t : ℕ) (comes : TurnEnd) → mid.bounds ≡ old.bounds → mid.words ≡ old.words
    → threads_in meant mid.seats.places.items ≡ threads_in meant old.seats.places.items
    → GivesTurn code meant mid.bounds mid.words mid.seats.places.items t comes new.words new.seats.places.items → GivesTurn code meant old.bounds old.words old.seats.places.items t comes new.words new.seats.places.items
given_from code meant old mid new t comes bounds words threads gives = λ r core.
    let from : IsCoreOf meant mid.words mid.seats.places.items r.core = record { words = core.words ∙ ap words_in (sym words); threads = core.threads ∙ sym threads } in
    let given = gives r from in
    (given.0, subst (λ b. (word_turns code b).gives r t comes given.0) bounds given.1, given.2)

-- and a thread that could have its turn can have it
pub still_can_turn : {C S : Type 0} {G : Ghosts C} (code : Code S) (state : C → S) (saved : C → List S) (old mid : WordMachine C G) (t : ℕ) → mid.bounds ≡ old.bounds → mid.words ≡ old.words
    → threads_in (thread_of state saved) mid.seats.places.items ≡ threads_in (thread_of state saved) old.seats.places.items
    → ((x : JThread C) → seat_in old.seats.places.items t ≡ Some x → CanTurnOn code old.bounds old.words (thread_of state saved x))
    → (x : JThread C) → seat_in mid.seats.places.items t ≡ Some x → CanTurnOn code mid.bounds mid.words (thread_of state saved x)
still_can_turn code state saved old mid t bounds words threads ready x here =
    let (y, there, same) = there_before (thread_of state saved) old.seats.places.items mid.seats.places.items t threads x here in
    subst (λ b. CanTurnOn code b mid.words (thread_of state saved x)) (sym bounds)
    (subst (λ w. CanTurnOn code old.bounds w (thread_of state saved x)) (sym words)
    (subst (CanTurnOn code old.bounds old.words) same (ready y there)))

-- so it leads from the same places of a run
pub placed_from : {C S : Type 0} {G : Ghosts C} (code : Code S) (meant : JThread C → ThreadState S) (old mid new : WordRun C G) (t : ℕ) (comes : TurnEnd) → IsSame meant old mid
    → GivesPlace code meant mid.machine.bounds mid t comes new → GivesPlace code meant old.machine.bounds old t comes new
placed_from code meant old mid new t comes same gives = λ r place.
    let from : IsPlaceOf meant mid r = record {
      core = record { words = place.core.words ∙ ap words_in (sym same.words); threads = place.core.threads ∙ sym same.threads };
      untold = place.untold;
      opens = same.opened ∙ place.opens;
      undoes = same.undone ∙ place.undoes;
    } in
    let given = gives r from in
    (given.0, subst (λ b. (word_turns code b).gives r t comes given.0) same.bounds given.1, given.2)
