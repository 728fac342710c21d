-- Silent turns in memory are the next turns of the run.
use Rattle.std.proofs.Common.{◌≡◌, ◌≢◌, ℕ, zero, suc, ◌<◌, ◌≤◌, inl, inr, true, false, Option, None, Some, List, [], ◌∷◌, slice_get, refl, sym, ◌∙◌, ap, subst, arith}
use Rattle.std.specs.Prelude.{IfSome}
use Rattle.std.proofs.lemmas.Bool.{cases_lt}
use Rattle.std.specs.Option.{option_map}
use Rattle.op_core.specs.declared.thread_code.ThreadCode.{Ghosts}
use Rattle.op_core.specs.ThreadCode.{Code}
use Rattle.op_core.specs.OrdinaryState.{set_at}
use Rattle.op_core.proofs.PointwiseLemmas.{set_at-hit, set_at-other, set_at-same}
use Rattle.schedules.specs.declared.order.OrderItem.{OrderItem}
use Rattle.schedules.specs.declared.order.OrderItem.TheVariants.{Turns, Until}
use Rattle.schedules.specs.Schedule as schedule
use Rattle.schedules.specs.Schedule.{Rest, drawn, due, number_after}
use Rattle.schedules.specs.Run.{Run, due_of, GetsTurn, IsPicked}
use Rattle.thread_automaton.specs.declared.Bounds.{Bounds}
use Rattle.thread_automaton.specs.ThreadState.{ThreadState}
use Rattle.plain_words.specs.Table.{words_in}
use Rattle.thread_moves.specs.declared.thread.JThread.{JThread}
use Rattle.thread_moves.specs.Thread.{thread_of}
use Rattle.rollback_core.specs.Quiet.{QuietTurns}
use Rattle.word_runs.specs.Enabled.{is_enabled}
use Rattle.word_runs.specs.WordTurns.{Progress, IsEnabledIn, is_live, word_turns}
use Rattle.word_machine.specs.declared.machine.WordMachine.{WordMachine}
use Rattle.word_machine.specs.Machine.{threads_in, is_enabled_in}
use Rattle.word_machine.specs.Silent.{MakesQuiet}
use Rattle.sched_core.specs.declared.word_run.WordRun.{WordRun}
use Rattle.sched_core.specs.ScheduledRun.{CanGive, order_left, CanGoOn, IsPlaceOf, IsSame, GoesTo, GoesOnDue, GoesOnPicked}
use Rattle.sched_core.proofs.LowestLemmas.{lowest_picked}
use Rattle.sched_core.proofs.OrderLemmas.{item_left, all_left, left_thread, left_due}
use Rattle.sched_core.proofs.RunLemmas.{place_as, can_enabled, enabled_can}
use Rattle.sched_core.proofs.SilentLemmas.{IsThere, LetsTurns, turns_live, quiet_enabled, silent_on}

-- no turn leaves the thread as it was, and all others
pub none_made : {S : Type 0} (code : Code S) (b : Bounds) (n : ℕ) (old next : Option (ThreadState S)) → n ≤ 0 → MakesQuiet code b n old next → next ≡ old
none_made code b zero None next none made = made.1
none_made code b zero (Some th) next none (last, same, is) = is ∙ ap Some same
none_made code b (suc n) old next none made = absurd (omega (arith, none))

module _ {C S : Type 0} {G : Ghosts C} (code : Code S) (meant : JThread C → ThreadState S) (b : Bounds) (t n : ℕ) (old new : WordRun C G) where
  -- what a stretch of silent turns of thread t makes in memory
  pub record IsStretch : Type 0 where
    pub made : MakesQuiet code b n (threads_in meant old.machine.seats.places.items t) (threads_in meant new.machine.seats.places.items t)
    pub others : threads_in meant new.machine.seats.places.items ≡ set_at (threads_in meant old.machine.seats.places.items) t (threads_in meant new.machine.seats.places.items t)
    pub words : new.machine.words ≡ old.machine.words
    pub opened : new.opened ≡ old.opened
    pub undone : new.undone ≡ old.undone

  none_same : n ≤ 0 → IsStretch → new.machine.bounds ≡ old.machine.bounds → IsSame meant old new
  none_same none stretch bounds = record {
    bounds = bounds;
    words = stretch.words;
    threads = stretch.others ∙ set_at-same (threads_in meant old.machine.seats.places.items) t (threads_in meant new.machine.seats.places.items t)
        (sym (none_made code b n (threads_in meant old.machine.seats.places.items t) (threads_in meant new.machine.seats.places.items t) none stretch.made));
    opened = stretch.opened;
    undone = stretch.undone;
  }

  placed : (run : Run (Progress S)) (x : ThreadState S) (r : Progress S) → IsPlaceOf meant old run.state → IsThere code b t run x r → IsStretch → threads_in meant new.machine.seats.places.items t ≡ Some x → IsPlaceOf meant new r
  placed run x r place there stretch is = record {
    core = record {
      words = there.words ∙ place.core.words ∙ ap words_in (sym stretch.words);
      threads = there.threads ∙ ap (λ f. set_at f t (Some x)) place.core.threads ∙ ap (set_at (threads_in meant old.machine.seats.places.items) t) (sym is) ∙ sym stretch.others;
    };
    untold = there.untold;
    opens = stretch.opened ∙ place.opens ∙ sym there.opened;
    undoes = stretch.undone ∙ place.undoes ∙ sym there.undone;
  }

  -- a schedule that lets the thread have these turns goes on by them
  pub stretch_goes : 0 < n → IsStretch → (run : Run (Progress S)) (rests : ℕ → Rest) → IsPlaceOf meant old run.state → LetsTurns code b t run n rests → new.rest ≡ rests n → GoesTo code meant b run None new
  stretch_goes some stretch run rests place lets left = by_thread (threads_in meant old.machine.seats.places.items t) refl stretch.made
    where
      by_thread : (th : Option (ThreadState S)) → threads_in meant old.machine.seats.places.items t ≡ th → MakesQuiet code b n th (threads_in meant new.machine.seats.places.items t) → GoesTo code meant b run None new
      by_thread None at (none, is) = absurd (omega (arith, some, none))
      by_thread (Some th) at (last, turns, is) =
          let (next, on, there, rest) = silent_on code b t run n rests lets th (ap (λ f. f t) place.core.threads ∙ at) place.untold last some (live_of n some turns) turns in
          (next, on, placed run last next.state place there stretch is, rest ∙ sym left)
        where
          live_of : (m : ℕ) → 0 < m → QuietTurns code b m th last → th.over ≡ false
          live_of zero some turns = absurd (omega (arith, some))
          live_of (suc m) some turns = turns_live code b m th last turns

-- where a thread has no silent turn to make, all is as before
pub silent_same : {C S : Type 0} {G : Ghosts C} (code : Code S) (meant : JThread C → ThreadState S) (t n : ℕ) (old : WordRun C G) (machine : WordMachine C G) → n ≤ 0 → machine.bounds ≡ old.machine.bounds → machine.words ≡ old.machine.words
    → MakesQuiet code old.machine.bounds n (threads_in meant old.machine.seats.places.items t) (threads_in meant machine.seats.places.items t)
    → threads_in meant machine.seats.places.items ≡ set_at (threads_in meant old.machine.seats.places.items) t (threads_in meant machine.seats.places.items t) → IsSame meant old (record old { machine = machine })
silent_same code meant t n old machine none bounds words made others =
    none_same code meant old.machine.bounds t n old (record old { machine = machine }) none (record { made = made; others = others; words = words; opened = refl; undone = refl }) bounds

-- ---- the turns that an item gives

module _ {S : Type 0} (code : Code S) (b : Bounds) (t n : ℕ) (run : Run (Progress S)) (rest : Rest) (item : OrderItem) (others : List OrderItem) (first : rest.order ≡ item ∷ others) where
  left_is : (k : ℕ) → order_left k rest.order ≡ item_left k item ∷ others
  left_is k = ap (order_left k) first ∙ all_left k item others

  abbrev pub ordered : ℕ → Rest
  ordered k = record rest { order = order_left k rest.order }

  pub item_lets : schedule.thread_of item ≡ t → CanGive n item → due_of (word_turns code b) run ≡ rest → is_live (run.state.core.threads t) ≡ true → LetsTurns code b t run n ordered
  item_lets mine gives due_is lives = record {
    first = due_is;
    leaves = λ k below. ap (λ number. record rest { order = order_left (suc k) rest.order; number = number }) (ap (λ order. number_after order rest.number) (left_is k));
    stays = λ k below. ap (λ order. record rest { order = order })
        (ap (due (λ u. is_live (run.state.core.threads u))) (left_is (suc k))
        ∙ left_due (λ u. is_live (run.state.core.threads u)) n (suc k) item others gives below (ap (λ u. is_live (run.state.core.threads u)) mine ∙ lives) ∙ sym (left_is (suc k)));
    gets = λ k x y r below turn there. subst (λ order. GetsTurn (word_turns code b) r order rest.number t) (sym (left_is k)) (sym (left_thread k item ∙ mine));
  }

fewer : (n most : ℕ) (item : OrderItem) → n ≤ most → CanGive most item → CanGive n item
fewer n most (Turns u count) less gives = omega (arith, less, gives)
fewer n most (Until u kind) less gives = tt

-- so silent turns of the first item, which is due, are the next ones
pub item_stretch : {C S : Type 0} {G : Ghosts C} (code : Code S) (meant : JThread C → ThreadState S) (b : Bounds) (t n : ℕ) (old new : WordRun C G) → 0 < n → IsStretch code meant b t n old new
    → (first : Option OrderItem) (most : ℕ) → first ≡ slice_get old.rest.order 0 → IfSome first (CanGive most) → n ≤ most → Some t ≡ option_map schedule.thread_of (slice_get old.rest.order 0)
    → is_live (threads_in meant old.machine.seats.places.items t) ≡ true → new.rest ≡ record old.rest { order = order_left n old.rest.order } → GoesOnDue code meant b old None new
item_stretch {C} {S} code meant b t n old new some stretch first most first_is gives less mine lives left =
    by_order old.rest.order refl (subst (λ item. IfSome item (CanGive most)) first_is gives) mine
  where
    by_order : (order : List OrderItem) → old.rest.order ≡ order → IfSome (slice_get order 0) (CanGive most) → Some t ≡ option_map schedule.thread_of (slice_get order 0) → GoesOnDue code meant b old None new
    by_order [] is gives mine = absurd (cc)
    by_order (item ∷ others) is gives mine = λ run place due_is.
        let same : schedule.thread_of item ≡ t = cc in
        let live_there = ap is_live (ap (λ f. f t) place.core.threads) ∙ lives in
        stretch_goes code meant b t n old new some stretch run (ordered code b t n run old.rest item others is) place
        (item_lets code b t n run old.rest item others is same (fewer n most item less gives) due_is live_there) left

-- ---- the turns of the lowest thread that can go on

-- nothing is left of a schedule that draws no number
abbrev pub none_left : Rest
none_left = record { order = []; number = None }

pub nothing_due : {S : Type 0} (code : Code S) (b : Bounds) (run : Run (Progress S)) → (due_of (word_turns code b) run).order ≡ [] → drawn run.rest.number ≡ None → due_of (word_turns code b) run ≡ none_left
nothing_due code b run through draws = by_number run.rest.number refl draws
  where
    by_number : (number : Option ℕ) → run.rest.number ≡ number → drawn number ≡ None → due_of (word_turns code b) run ≡ none_left
    by_number None is draws = λ i. record { order = through i; number = is i }
    by_number (Some x) is draws = absurd (cc)

module _ {S : Type 0} (code : Code S) (b : Bounds) (t n : ℕ) (run : Run (Progress S)) (few : (u : ℕ) → 256 ≤ u → run.state.core.threads u ≡ None) (low : t < 256)
    (none : (u : ℕ) → u < t → IsEnabledIn code run.state (run.state.core.threads u) → ⊥) where
  others_as : (x : ThreadState S) (r : Progress S) (u : ℕ) → u ≢ t → IsThere code b t run x r → r.core.threads u ≡ run.state.core.threads u
  others_as x r u other there = ap (λ f. f u) there.threads ∙ set_at-other run.state.core.threads t (Some x) u other

  enabled_first : (x : ThreadState S) (r : Progress S) (u : ℕ) → u ≢ t → IsThere code b t run x r → IsEnabledIn code r (r.core.threads u) → IsEnabledIn code run.state (run.state.core.threads u)
  enabled_first x r u other there can = by_words r (run.state.core.threads u) there.words (subst (IsEnabledIn code r) (others_as x r u other there) can)
    where
      by_words : (r : Progress S) (th : Option (ThreadState S)) → r.core.words ≡ run.state.core.words → IsEnabledIn code r th → IsEnabledIn code run.state th
      by_words r None same can = can
      by_words r (Some th) same can = subst (λ w. is_enabled code w th ≡ true) same can

  pub lowest_lets : due_of (word_turns code b) run ≡ none_left → LetsTurns code b t run n (λ _. none_left)
  lowest_lets due_is = record {
    first = due_is;
    leaves = λ k below. refl;
    stays = λ k below. refl;
    gets = λ k x y r below turn there. lowest_picked code r t
        (λ u past. others_as x r u (λ is. let more : u < 256 = subst (λ v. v < 256) (sym is) low in omega (arith, more, past)) there ∙ few u past)
        (subst (IsEnabledIn code r) (sym (there_is x r there)) (quiet_enabled code b r.core.words x y turn))
        (λ u under can. none u under (enabled_first x r u (λ is. let same : u ≡ t = is in omega (arith, same, under)) there can));
  }
    where
      there_is : (x : ThreadState S) (r : Progress S) → IsThere code b t run x r → r.core.threads t ≡ Some x
      there_is x r there = ap (λ f. f t) there.threads ∙ set_at-hit run.state.core.threads t (Some x)

-- Where no number is drawn, silent turns of the lowest thread that makes some are the next ones, if none below it can go on.
pub lowest_stretch : {C S : Type 0} {G : Ghosts C} (code : Code S) (state : C → S) (saved : C → List S) (b : Bounds) (t n : ℕ) (first old new : WordRun C G) → 0 < n → IsSame (thread_of state saved) first old
    → IsStretch code (thread_of state saved) b t n old new → ((u : ℕ) → 256 ≤ u → threads_in (thread_of state saved) first.machine.seats.places.items u ≡ None) → t < 256
    → ((u : ℕ) → u < t → CanGoOn code (thread_of state saved) first.machine.words first.machine.seats.places.items u → ⊥) → first.rest ≡ none_left → new.rest ≡ none_left
    → GoesOnPicked code (thread_of state saved) b first None new
lowest_stretch code state saved b t n first old new some same stretch few low none rest left = λ run place through draws.
    stretch_goes code (thread_of state saved) b t n old new some stretch run (λ _. none_left) (place_as code state saved b first old new run place same)
    (lowest_lets code b t n run (λ u past. ap (λ f. f u) place.core.threads ∙ few u past) low
    (λ u under can. none u under (enabled_can code state saved first.machine.words first.machine.seats.places.items b run.state u place.core can))
    (nothing_due code b run through (draws ∙ ap (λ (r : Rest). r.number) rest))) left

-- and so is a turn of the lowest one that can go on
pub lowest_is_picked : {C S : Type 0} {G : Ghosts C} (code : Code S) (state : C → S) (saved : C → List S) (b : Bounds) (t : ℕ) (first : WordRun C G)
    → ((u : ℕ) → 256 ≤ u → threads_in (thread_of state saved) first.machine.seats.places.items u ≡ None)
    → CanGoOn code (thread_of state saved) first.machine.words first.machine.seats.places.items t
    → ((u : ℕ) → u < t → CanGoOn code (thread_of state saved) first.machine.words first.machine.seats.places.items u → ⊥)
    → (r : Progress S) → IsPlaceOf (thread_of state saved) first r → IsPicked ((word_turns code b).enabled r) None t
lowest_is_picked code state saved b t first few can none = λ r place.
    lowest_picked code r t (λ u past. ap (λ f. f u) place.core.threads ∙ few u past)
    (can_enabled code state saved first.machine.words first.machine.seats.places.items b r t place.core can)
    (λ u under able. none u under (enabled_can code state saved first.machine.words first.machine.seats.places.items b r u place.core able))

-- ---- where all is as before

pub still_can : {C S : Type 0} {G : Ghosts C} (code : Code S) (meant : JThread C → ThreadState S) (first old : WordRun C G) (t : ℕ) → IsSame meant first old
    → CanGoOn code meant old.machine.words old.machine.seats.places.items t → CanGoOn code meant first.machine.words first.machine.seats.places.items t
still_can code meant first old t same can =
    subst (λ w. is_enabled_in code (words_in w) (threads_in meant first.machine.seats.places.items t) ≡ true) same.words
    (subst (λ f. is_enabled_in code (words_in old.machine.words) (f t) ≡ true) same.threads can)

pub same_back : {C S : Type 0} {G : Ghosts C} (meant : JThread C → ThreadState S) (first old : WordRun C G) → IsSame meant first old → IsSame meant old first
same_back meant first old same = record {
  bounds = sym same.bounds;
  words = sym same.words;
  threads = sym same.threads;
  opened = sym same.opened;
  undone = sym same.undone;
}

-- a thread that can go on is one of those that are there
pub can_within : {C S : Type 0} {G : Ghosts C} (code : Code S) (meant : JThread C → ThreadState S) (first : WordRun C G) (count t : ℕ) → ((u : ℕ) → count ≤ u → threads_in meant first.machine.seats.places.items u ≡ None)
    → CanGoOn code meant first.machine.words first.machine.seats.places.items t → t < count
can_within code meant first count t none can = elim (cases_lt t count) [
  | inl low ↦ low
  | inr past ↦ let never : false ≡ true = sym (ap (is_enabled_in code (words_in first.machine.words)) (none t past)) ∙ can in absurd (cc)
]

pub still_same : {C S : Type 0} {G : Ghosts C} (meant : JThread C → ThreadState S) (first old new : WordRun C G) → IsSame meant first old → IsSame meant old new → IsSame meant first new
still_same meant first old new before later = record {
  bounds = later.bounds ∙ before.bounds;
  words = later.words ∙ before.words;
  threads = later.threads ∙ before.threads;
  opened = later.opened ∙ before.opened;
  undone = later.undone ∙ before.undone;
}
