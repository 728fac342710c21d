-- A turn in memory is the next turn of the run.
use Rattle.std.proofs.Common.{◌≡◌, ℕ, ◌+◌, Bool, true, false, cond, not, ◌&&◌, Option, None, Some, List, [], ◌∷◌, ◌++◌, length, slice_get, refl, sym, ◌∙◌, ap, subst, arith}
use Rattle.std.specs.Prelude.{Result, Ok, Err, IfOk}
use Rattle.std.specs.Option.{option_map}
use Rattle.std.specs.List.{Contains}
use Rattle.std.proofs.lemmas.Bool.{and_parts}
use Rattle.std.proofs.lemmas.Option.{slice_get_within, get_or_from_slice_get}
use Rattle.op_core.specs.declared.thread_code.ThreadCode.{Ghosts}
use Rattle.op_core.specs.declared.NoMemory.{NoMemory}
use Rattle.op_core.specs.declared.How.{How}
use Rattle.op_core.specs.declared.How.TheVariants as hows
use Rattle.op_core.specs.ThreadCode.{Code}
use Rattle.schedules.specs.declared.order.OrderItem.{OrderItem}
use Rattle.schedules.specs.declared.order.TurnEnd.{TurnEnd}
use Rattle.schedules.specs.declared.order.TurnEnd.TheVariants as ends
use Rattle.schedules.specs.Schedule as schedule
use Rattle.schedules.specs.Schedule.{Rest, has_turns, due, drawn, place_of, number_after, order_after, rest_due, rest_after}
use Rattle.schedules.proofs.ListLemmas.{none_there}
use Rattle.schedules.specs.Run.{AreThose, IsPicked, IsTurn, Run, due_of, GetsTurn, IsNext, EndsOfItself, EndsWith, EndsBy}
use Rattle.thread_automaton.specs.declared.Bounds.{Bounds}
use Rattle.thread_automaton.specs.ThreadState.{ThreadState}
use Rattle.plain_words.specs.declared.plain.PlainWords.{PlainWords}
use Rattle.plain_words.specs.Table.{words_in, MayStep, Stepped}
use Rattle.thread_moves.specs.declared.thread.JThread.{JThread}
use Rattle.thread_moves.specs.Thread.{thread_of}
use Rattle.word_runs.specs.Enabled.{is_enabled}
use Rattle.word_runs.specs.WordTurns.{Progress, IsEnabledIn, is_live, word_turns}
use Rattle.word_machine.specs.Seats.{seat_in}
use Rattle.word_machine.specs.Machine.{threads_in, IsCoreOf, is_enabled_in}
use Rattle.word_machine.specs.Turns.{CanTurnOn, GivesTurn}
use Rattle.sched_core.specs.declared.word_run.WordRun.{WordRun}
use Rattle.schedules.specs.Run.{TurnSystem, Follows}
use Rattle.sched_core.specs.ScheduledRun.{how_at, opens_by, undoes_by, CanGoOn, StaysApart, AreReady, IsPlaceOf, IsSame, GivesPlace, GivesNext, GoesTo, GoesOnFrom, GoesOnDue, GoesOnPicked}
use Rattle.turn_runs.specs.Turns.{CanTurn, StaysReady}
use Rattle.sched_core.proofs.CountLemmas.{turns_count, spent_stays}

module _ {C S : Type 0} {G : Ghosts C} (code : Code S) (meant : JThread C → ThreadState S) (b : Bounds) (old new : WordRun C G) (t : ℕ) (comes : TurnEnd) where
  pub gives_place : GivesTurn code meant b old.machine.words old.machine.seats.places.items t comes new.machine.words new.machine.seats.places.items
      → new.opened ≡ old.opened + opens_by comes → new.undone ≡ old.undone + undoes_by comes → GivesPlace code meant b old t comes new
  gives_place gives opened undone = λ r place.
      let given = gives r place.core in
      let counts = turns_count code b r t comes given.0 given.1 in (
        given.0,
        given.1,
        record {
          core = given.2;
          untold = counts.keeps ∙ place.untold;
          opens = opened ∙ ap (λ n. n + opens_by comes) place.opens ∙ sym counts.opened;
          undoes = undone ∙ ap (λ n. n + undoes_by comes) place.undoes ∙ sym counts.undone;
        },
      )

-- a run that keeps no events is stopped by no journal
pub unstopped : {S : Type 0} (code : Code S) (b : Bounds) (r : Progress S) → r.keeps ≡ false → (word_turns code b).stopped r ≡ None
unstopped code b r untold = ap (λ keeps. (word_turns code b).stopped (record r { keeps = keeps })) untold

pub ends_by_itself : {S : Type 0} (code : Code S) (b : Bounds) (run : Run (Progress S)) (end : How) → run.state.keeps ≡ false → EndsOfItself (word_turns code b) run end → EndsBy (word_turns code b) run end
ends_by_itself code b run end untold ends = subst (λ stop. EndsWith (word_turns code b) run stop end) (sym (unstopped code b run.state untold)) ends

-- the item that is due first is one of a live thread
first_due : (live : ℕ → Bool) (x item : OrderItem) (order others : List OrderItem) (test : Bool) → (has_turns x && live (schedule.thread_of x)) ≡ test
    → cond test (x ∷ order) (due live order) ≡ item ∷ others → (due live order ≡ item ∷ others → live (schedule.thread_of item) ≡ true) → live (schedule.thread_of item) ≡ true
first_due live x item order others true is first later =
    let same : x ≡ item = cc in
    subst (λ i. live (schedule.thread_of i) ≡ true) same (and_parts (has_turns x) (live (schedule.thread_of x)) is).1
first_due live x item order others false is first later = later first

pub due_lives : (live : ℕ → Bool) (order : List OrderItem) (item : OrderItem) (others : List OrderItem) → due live order ≡ item ∷ others → live (schedule.thread_of item) ≡ true
due_lives live [] item others is = absurd (cc)
due_lives live (x ∷ order) item others is = first_due live x item order others (has_turns x && live (schedule.thread_of x)) refl is (due_lives live order item others)

-- what a result gives, if it gives this
pub ok_gives : {A : Type 0} {P Q : A → Type 0} (result : Result A NoMemory) → ((x : A) → P x → Q x) → IfOk result P → IfOk result Q
ok_gives (Ok x) gives has = gives x has
ok_gives (Err e) gives has = has

is_false : (over : Bool) → not over ≡ true → over ≡ false
is_false true is = absurd (cc)
is_false false is = refl

-- the order has an item first, whose thread this is
pub item_first : (order : List OrderItem) (t : ℕ) → option_map schedule.thread_of (slice_get order 0) ≡ Some t → (item : OrderItem) × (others : List OrderItem) × (order ≡ item ∷ others) × (schedule.thread_of item ≡ t)
item_first [] t is = absurd (cc)
item_first (item ∷ others) t is = let same : schedule.thread_of item ≡ t = cc in (item, others, refl, same)

-- or none
pub none_first : (order : List OrderItem) → option_map schedule.thread_of (slice_get order 0) ≡ None → order ≡ []
none_first [] none = refl
none_first (item ∷ others) none = absurd (cc)

-- what a turn leaves of what was due
pub after_item : (rest : Rest) (item : OrderItem) (others : List OrderItem) (comes : TurnEnd) → rest.order ≡ item ∷ others → rest_after rest comes ≡ record rest { order = order_after rest.order comes }
after_item rest item others comes is = ap (λ number. record rest { order = order_after rest.order comes; number = number }) (ap (λ order. number_after order rest.number) is)

pub after_pick : (rest : Rest) (comes : TurnEnd) → rest.order ≡ [] → rest_after rest comes ≡ record rest { order = order_after rest.order comes; number = drawn rest.number }
after_pick rest comes is = ap (λ number. record rest { order = order_after rest.order comes; number = number }) (ap (λ order. number_after order rest.number) is)

module _ {C S : Type 0} {G : Ghosts C} (code : Code S) (state : C → S) (saved : C → List S) (b : Bounds) (old mid new : WordRun C G) where
  abbrev meant : JThread C → ThreadState S
  meant = thread_of state saved

  abbrev pub lives : ℕ → Bool
  lives t = is_live (threads_in meant old.machine.seats.places.items t)

  pub due_same : (run : Run (Progress S)) → IsPlaceOf meant old run.state → run.rest ≡ old.rest → due_of (word_turns code b) run ≡ rest_due lives old.rest
  due_same run place same = ap (λ threads. rest_due (λ t. is_live (threads t)) run.rest) place.core.threads ∙ ap (rest_due lives) same

  pub place_as : (run : Run (Progress S)) → IsPlaceOf meant old run.state → IsSame meant old mid → IsPlaceOf meant mid run.state
  place_as run place same = record {
    core = record { words = place.core.words ∙ ap words_in (sym same.words); threads = place.core.threads ∙ sym same.threads };
    untold = place.untold;
    opens = same.opened ∙ place.opens;
    undoes = same.undone ∙ place.undoes;
  }

  -- from the place at which the turn is given
  pub finish : (run : Run (Progress S)) (t : ℕ) (how : Option How) → IsPlaceOf meant mid run.state → IsNext (word_turns code b) run t
      → ((comes : TurnEnd) → rest_after (due_of (word_turns code b) run) comes ≡ record mid.rest { order = order_after mid.rest.order comes })
      → GivesNext code meant b mid t how new → GoesTo code meant b run how new
  finish run t how place next rests (comes, how_is, rest_is, gives) = let given = gives run.state place in subst (λ h. GoesTo code meant b run h new) (sym how_is) (by_end comes given.0 given.1 given.2 rest_is)
    where
      by_end : (comes : TurnEnd) (after : Progress S) → (word_turns code b).gives run.state t comes after → IsPlaceOf meant new after → new.rest ≡ record mid.rest { order = order_after mid.rest.order comes } → GoesTo code meant b run (how_at t comes) new
      by_end (ends.Spent limit) after given placed rest_is =
          let same : after ≡ run.state = spent_stays code b run.state t limit after given in
          (ends_by_itself code b run (hows.Limit t limit) place.untold (next, subst (λ s. (word_turns code b).gives run.state t (ends.Spent limit) s) same given), subst (IsPlaceOf meant new) same placed)
      by_end comes after given placed rest_is = (
        record { state = after; rest = rest_after (due_of (word_turns code b) run) comes },
        record {
          threads = t ∷ [];
          some = omega arith;
          follows = (
            comes,
            record { state = after; rest = rest_after (due_of (word_turns code b) run) comes },
            record { goes_on = unstopped code b run.state place.untold; gets = next; given = given; unspent = λ limit is. cc; leaves = refl },
            refl,
          );
        },
        placed,
        rests comes ∙ sym rest_is,
      )

  pub due_through : (run : Run (Progress S)) → IsPlaceOf meant old run.state → run.rest ≡ old.rest → (due_rest : Rest) → due_rest ≡ rest_due lives old.rest → due_rest.order ≡ [] → (due_of (word_turns code b) run).order ≡ []
  due_through run place same due_rest is through = ap (λ (r : Rest). r.order) (due_same run place same ∙ sym is) ∙ through

  -- the thread of the item that is due is live
  pub due_live : (t : ℕ) (due_rest : Rest) → due_rest ≡ rest_due lives old.rest → option_map schedule.thread_of (slice_get due_rest.order 0) ≡ Some t → lives t ≡ true
  due_live t due_rest is first =
      let (item, others, order_is, thread_is) = item_first due_rest.order t first in
      ap lives (sym thread_is) ∙ due_lives lives old.rest.order item others (ap (λ (r : Rest). r.order) (sym is) ∙ order_is)

  -- what is due from the place on is what was left
  pub from_due : (how : Option How) → IsSame meant old mid → mid.rest ≡ rest_due lives old.rest → GoesOnDue code meant b mid how new → GoesOnFrom code meant b old how new
  from_due how same rest goes = λ run place is. goes run (place_as run place same) (due_same run place is ∙ sym rest)

  -- what is picked once a number is drawn
  pub from_picked : (how : Option How) → IsSame meant old mid → old.rest.order ≡ [] → mid.rest ≡ record old.rest { number = drawn old.rest.number } → GoesOnPicked code meant b mid how new → GoesOnDue code meant b old how new
  from_picked how same none rest goes = λ run place due_is. goes run (place_as run place same) (ap (λ (r : Rest). r.order) due_is ∙ none)
      (ap (λ (r : Rest). drawn r.number) due_is ∙ sym (ap (λ (r : Rest). r.number) rest))

  -- the turn of the first item, which is due
  pub item_goes : (t : ℕ) (how : Option How) → IsSame meant old mid → mid.rest ≡ old.rest → Some t ≡ option_map schedule.thread_of (slice_get old.rest.order 0) → GivesNext code meant b mid t how new → GoesOnDue code meant b old how new
  item_goes t how same rest first gives = λ run place due_is.
      let (item, others, order_is, thread_is) = item_first old.rest.order t (sym first) in
      finish run t how (place_as run place same)
      (subst (λ order. GetsTurn (word_turns code b) run.state order run.rest.number t) (sym (ap (λ (r : Rest). r.order) due_is ∙ order_is)) (sym thread_is))
      (λ comes. ap (λ r. rest_after r comes) due_is ∙ after_item old.rest item others comes order_is ∙ ap (λ (r : Rest). record r { order = order_after r.order comes }) (sym rest)) gives

  -- the turn of a thread that is picked
  pub picked_goes : (t : ℕ) (how : Option How) → IsSame meant old mid → mid.rest ≡ old.rest → old.rest.order ≡ [] → ((r : Progress S) → IsPlaceOf meant old r → IsPicked ((word_turns code b).enabled r) old.rest.number t)
      → GivesNext code meant b mid t how new → GoesOnPicked code meant b old how new
  picked_goes t how same rest none picked gives = λ run place through draws.
      finish run t how (place_as run place same)
      (subst (λ order. GetsTurn (word_turns code b) run.state order run.rest.number t) (sym through) (subst (λ n. IsPicked ((word_turns code b).enabled run.state) n t) (sym draws) (picked run.state place)))
      (λ comes. after_pick (due_of (word_turns code b) run) comes through ∙ left comes (due_of (word_turns code b) run).order through run.rest.number draws ∙ ap (λ (r : Rest). record r { order = order_after r.order comes }) (sym rest)) gives
    where
      left : (comes : TurnEnd) (order : List OrderItem) → order ≡ [] → (number : Option ℕ) → drawn number ≡ old.rest.number
          → record { order = order_after order comes; number = drawn number } ≡ record old.rest { order = order_after old.rest.order comes }
      left comes order through number draws =
          let orders = ap (λ xs. order_after xs comes) (through ∙ sym none) in
          λ i. record { order = orders i; number = draws i }

-- each thread can still have its turns
pub still_ready : {C S : Type 0} {G : Ghosts C} (code : Code S) (state : C → S) (saved : C → List S) (old new : WordRun C G) → IsSame (thread_of state saved) old new
    → AreReady code (thread_of state saved) old.machine.bounds old.machine.words old.machine.seats.places.items → AreReady code (thread_of state saved) new.machine.bounds new.machine.words new.machine.seats.places.items
still_ready {C} {S} code state saved old new same ready = record {
  ready = λ t y here.
      let seat = seat_as t y here in
      subst (λ b. StaysReady code b MayStep Stepped (thread_of state saved y) new.machine.words) (sym same.bounds)
      (subst (λ w. StaysReady code old.machine.bounds MayStep Stepped (thread_of state saved y) w) (sym same.words)
      (subst (λ th. StaysReady code old.machine.bounds MayStep Stepped th old.machine.words) seat.2 (ready.ready t seat.0 seat.1)));
  apart = λ t u x y here there other.
      let mover = seat_as t x here in
      let waiter = seat_as u y there in
      subst (λ b. StaysApart code b new.machine.words (thread_of state saved x) (thread_of state saved y)) (sym same.bounds)
      (subst (λ w. StaysApart code old.machine.bounds w (thread_of state saved x) (thread_of state saved y)) (sym same.words)
      (subst (λ th. StaysApart code old.machine.bounds old.machine.words th (thread_of state saved y)) mover.2
      (subst (λ uh. StaysApart code old.machine.bounds old.machine.words (thread_of state saved mover.0) uh) waiter.2 (ready.apart t u mover.0 waiter.0 mover.1 waiter.1 other))));
}
  where
    some_same : (x y : ThreadState S) → Some x ≡ Some y → x ≡ y
    some_same x y is = cc

    some_as : (y : JThread C) (seat : Option (JThread C)) → option_map (thread_of state saved) seat ≡ Some (thread_of state saved y) → (x : JThread C) × (seat ≡ Some x) × (thread_of state saved x ≡ thread_of state saved y)
    some_as y None is = absurd (cc)
    some_as y (Some x) is = (x, refl, some_same (thread_of state saved x) (thread_of state saved y) is)

    seat_as : (t : ℕ) (y : JThread C) → seat_in new.machine.seats.places.items t ≡ Some y → (x : JThread C) × (seat_in old.machine.seats.places.items t ≡ Some x) × (thread_of state saved x ≡ thread_of state saved y)
    seat_as t y here = some_as y (seat_in old.machine.seats.places.items t) (ap (λ f. f t) (sym same.threads) ∙ ap (option_map (thread_of state saved)) here)

-- a thread that can have its turns can have the next one
pub turn_now : {S : Type 0} (code : Code S) (b : Bounds) (words : PlainWords) (th : ThreadState S) → StaysReady code b MayStep Stepped th words → CanTurnOn code b words th
turn_now code b words th ready =
    let now : CanTurn code b MayStep Stepped th words = ready [] th words (refl, refl) in
    record { asked = now.range; may = now.allowed; names = now.names }

pub seat_lives : {C : Type 0} (x y : JThread C) {seat : Option (JThread C)} → seat ≡ Some x → seat ≡ Some y → x.own.over ≡ false → y.own.over ≡ false
seat_lives x y is here lives = let same : x ≡ y = some_one x y (sym is ∙ here) in ap (λ z. z.own.over) (sym same) ∙ lives
  where
    some_one : {A : Type 0} (x y : A) → Some x ≡ Some y → x ≡ y
    some_one x y is = cc

-- the thread of a live seat is there, and hasn't ended
pub live_there : {C S : Type 0} (state : C → S) (saved : C → List S) (seat : Option (JThread C)) → is_live (option_map (thread_of state saved) seat) ≡ true → (x : JThread C) × (seat ≡ Some x) × (x.own.over ≡ false)
live_there state saved None is = absurd (cc)
live_there state saved (Some x) is = (x, refl, is_false x.own.over is)

-- the thread of a number that can go on is there, and hasn't ended
module _ {C S : Type 0} (code : Code S) (state : C → S) (saved : C → List S) (words : PlainWords) (places : List (Option (JThread C))) where
  enabled_seat : (t : ℕ) (seat : Option (JThread C)) → seat_in places t ≡ seat → is_enabled_in code (words_in words) (option_map (thread_of state saved) seat) ≡ true
      → (x : JThread C) × (seat_in places t ≡ Some x) × (x.own.over ≡ false)
  enabled_seat t None at can = absurd (cc)
  enabled_seat t (Some x) at can = (x, at, is_false x.own.over (and_parts (not x.own.over) _ can).0)

  pub can_seat : (t : ℕ) → CanGoOn code (thread_of state saved) words places t → (x : JThread C) × (seat_in places t ≡ Some x) × (x.own.over ≡ false)
  can_seat t can = enabled_seat t (seat_in places t) refl can

  enabled_as : (r : Progress S) (th : Option (ThreadState S)) → r.core.words ≡ words_in words → (IsEnabledIn code r th → is_enabled_in code (words_in words) th ≡ true) × (is_enabled_in code (words_in words) th ≡ true → IsEnabledIn code r th)
  enabled_as r None is = (λ none. absurd none, λ can. absurd (cc))
  enabled_as r (Some th) is = (λ can. subst (λ w. is_enabled code w th ≡ true) is can, λ can. subst (λ w. is_enabled code w th ≡ true) (sym is) can)

  pub can_enabled : (b : Bounds) (r : Progress S) (t : ℕ) → IsCoreOf (thread_of state saved) words places r.core → CanGoOn code (thread_of state saved) words places t → (word_turns code b).enabled r t
  can_enabled b r t core can = subst (IsEnabledIn code r) (ap (λ f. f t) (sym core.threads)) ((enabled_as r (threads_in (thread_of state saved) places t) core.words).1 can)

  pub enabled_can : (b : Bounds) (r : Progress S) (t : ℕ) → IsCoreOf (thread_of state saved) words places r.core → (word_turns code b).enabled r t → CanGoOn code (thread_of state saved) words places t
  enabled_can b r t core can = (enabled_as r (threads_in (thread_of state saved) places t) core.words).0 (subst (IsEnabledIn code r) (ap (λ f. f t) core.threads) can)

  -- the threads that can go on are the enabled ones
  pub those_enabled : (b : Bounds) (r : Progress S) (threads : List ℕ) → IsCoreOf (thread_of state saved) words places r.core → AreThose (CanGoOn code (thread_of state saved) words places) threads → AreThose ((word_turns code b).enabled r) threads
  those_enabled b r threads core those = record {
    rising = those.rising;
    each = λ t. (λ there. can_enabled b r t core ((those.each t).0 there), λ can. (those.each t).1 (enabled_can b r t core can));
  }

  pub none_enabled : (b : Bounds) (r : Progress S) → IsCoreOf (thread_of state saved) words places r.core → ((t : ℕ) → CanGoOn code (thread_of state saved) words places t → ⊥) → (t : ℕ) → (word_turns code b).enabled r t → ⊥
  none_enabled b r core none t can = none t (enabled_can b r t core can)

  pub picked_can : (threads : List ℕ) (place t : ℕ) → AreThose (CanGoOn code (thread_of state saved) words places) threads → slice_get threads place ≡ Some t → CanGoOn code (thread_of state saved) words places t
  picked_can threads place t those at = (those.each t).0 (there threads place t at)
    where
      there : (xs : List ℕ) (k t : ℕ) → slice_get xs k ≡ Some t → Contains xs t
      there xs k t at = (k, slice_get_within xs k t at, get_or_from_slice_get xs k t t at)

  pub none_can : (t : ℕ) → AreThose (CanGoOn code (thread_of state saved) words places) [] → CanGoOn code (thread_of state saved) words places t → ⊥
  none_can t those can = none_there t ((those.each t).1 can)

-- the thread at the place that a number gives is picked
pub drawn_picked : {C S : Type 0} {G : Ghosts C} (code : Code S) (state : C → S) (saved : C → List S) (b : Bounds) (old : WordRun C G) (t : ℕ) (threads : List ℕ) (number : Option ℕ)
    → AreThose (CanGoOn code (thread_of state saved) old.machine.words old.machine.seats.places.items) threads → slice_get threads (place_of number (length threads)) ≡ Some t
    → (r : Progress S) → IsPlaceOf (thread_of state saved) old r → IsPicked ((word_turns code b).enabled r) number t
drawn_picked code state saved b old t threads number those at = λ r place. record {
  threads = threads;
  those = those_enabled code state saved old.machine.words old.machine.seats.places.items b r threads place.core those;
  at_place = at;
}

-- one turn more
pub follows_more : {R : Type 0} (system : TurnSystem R) (run mid next : Run R) (ts : List ℕ) (t : ℕ) (comes : TurnEnd) → Follows system run ts mid → IsTurn system mid t comes next → Follows system run (ts ++ t ∷ []) next
follows_more system run mid next [] t comes same turn = (comes, next, subst (λ m. IsTurn system m t comes next) same turn, refl)
follows_more system run mid next (u ∷ ts) t comes (end, first, one, others) turn = (end, first, one, follows_more system first mid next ts t comes others turn)
