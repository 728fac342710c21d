-- Usual turns of the lowest thread that can go on are the next turns of the run.
use Rattle.std.proofs.Common.{◌≡◌, ◌≢◌, ℕ, zero, suc, ◌<◌, ◌≤◌, Bool, true, false, Option, None, Some, List, [], ◌∷◌, length, refl, sym, ◌∙◌, ap, subst, arith}
use Rattle.std.proofs.lemmas.Bool.{and_parts}
use Rattle.op_core.specs.declared.thread_code.ThreadCode.{Ghosts}
use Rattle.op_core.specs.declared.Next.{Next}
use Rattle.op_core.specs.ThreadCode.{Code}
use Rattle.op_core.specs.OrdinaryState.{set_at}
use Rattle.op_core.proofs.PointwiseLemmas.{set_at-hit, set_at-other, set_at-same, set_at-twice}
use Rattle.std.specs.Option.{option_map}
use Rattle.op_core.specs.declared.Limit.{Limit}
use Rattle.schedules.specs.declared.order.TurnEnd.{TurnEnd}
use Rattle.schedules.specs.declared.order.TurnEnd.TheVariants as ends
use Rattle.schedules.specs.Schedule.{Rest, rest_after}
use Rattle.schedules.specs.Run.{Run, due_of, GetsTurn, IsTurn, Follows}
use Rattle.step_port.specs.declared.answer.StepAnswer.{StepAnswer}
use Rattle.step_port.specs.declared.step.Step.{Step}
use Rattle.step_port.specs.declared.step.Step.TheVariants.{LoadWord, LoadSection, LoadClass, SwapWord}
use Rattle.step_port.specs.Steps.{kind_of}
use Rattle.step_port.specs.Words.{Words, answer_of, words_after}
use Rattle.thread_automaton.specs.declared.Bounds.{Bounds}
use Rattle.thread_automaton.specs.declared.Move.TheVariants.{Make}
use Rattle.thread_automaton.specs.ThreadState.{ThreadState}
use Rattle.thread_automaton.specs.Told.{Told, probed, advanced, born, lost, blocked, told, after_answer, after_quiet}
use Rattle.plain_words.specs.declared.plain.PlainWords.{PlainWords}
use Rattle.plain_words.specs.Table.{words_in, Stepped}
use Rattle.core_runs.specs.Cores.{threads_by}
use Rattle.thread_moves.specs.declared.thread.JThread.{JThread}
use Rattle.thread_moves.specs.Thread.{thread_of}
use Rattle.turn_runs.specs.Turns.{TurnMove, silent, made, Turns}
use Rattle.quick_turns.specs.Usual.{goes_through, is_usual_step, AreUsual}
use Rattle.quick_turn_laws.specs.Laws.{IsNotWaitedFor, OverwriteNone}
use Rattle.quick_turn_laws.proofs.WaitLemmas.{waiting_stay}
use Rattle.word_runs.specs.Enabled.{is_enabled}
use Rattle.word_runs.specs.WordTurns.{Progress, IsEnabledIn, GivesBy, GivesQuiet, end_of, after_silent, after_step, word_turns}
use Rattle.word_machine.specs.Seats.{seat_in}
use Rattle.word_machine.specs.Machine.{threads_in}
use Rattle.word_machine.specs.Usual.{MakesUsual}
use Rattle.sched_core.specs.declared.word_run.WordRun.{WordRun}
use Rattle.sched_core.specs.Counts.{opened_in, undone_in}
use Rattle.sched_core.specs.ScheduledRun.{opens_by, undoes_by, CanGoOn, StaysApart, AreReady, IsPlaceOf, IsSame, GoesTo, GoesOnPicked}
use Rattle.sched_core.proofs.CountLemmas.{turns_count}
use Rattle.sched_core.proofs.ReadyLemmas.{areas_stay}
use Rattle.sched_core.proofs.RunLemmas.{place_as, unstopped, enabled_can}
use Rattle.sched_core.proofs.LowestLemmas.{lowest_picked}
use Rattle.sched_core.proofs.StretchLemmas.{none_left, nothing_due}

-- what a usual step makes of the threads and of what is counted: nothing
record IsPlain {S : Type 0} (code : Code S) (step : Step) : Type 0 where
  threads : (l : S) (threads : ℕ → Option (ThreadState S)) → threads_by code step l threads ≡ threads
  opens : opens_by (ends.Made (kind_of step)) ≡ 0
  undoes : undoes_by (ends.Made (kind_of step)) ≡ 0

usual_plain : {S : Type 0} (code : Code S) (w : Words) (step : Step) → is_usual_step w step ≡ true → IsPlain code step
usual_plain code w (LoadWord at) is = record { threads = λ l threads. refl; opens = refl; undoes = refl }
usual_plain code w (LoadSection s) is = record { threads = λ l threads. refl; opens = refl; undoes = refl }
usual_plain code w (LoadClass c) is = record { threads = λ l threads. refl; opens = refl; undoes = refl }
usual_plain code w (SwapWord at old new) is = record { threads = λ l threads. refl; opens = refl; undoes = refl }
usual_plain code w step is = absurd (cc)

through_made : (step : Step) (tells : Told) → goes_through tells ≡ true → end_of step tells ≡ ends.Made (kind_of step)
through_made step probed is = refl
through_made step (advanced reply) is = refl
through_made step born is = absurd (cc)
through_made step (lost v) is = absurd (cc)
through_made step (blocked why) is = absurd (cc)

module _ {S : Type 0} (code : Code S) (b : Bounds) (t : ℕ) where
  -- a step overwrites no word for which the thread waits, if it is no exchange of one
  overwrites_none : (step : Step) (next : Next) (answer : StepAnswer) (tells : Told) (uh : ThreadState S) → ((at old new : ℕ) → step ≡ SwapWord at old new → IsNotWaitedFor (code.next uh.local) at)
      → OverwriteNone (code.next uh.local) (made next step answer tells ∷ [])
  overwrites_none (SwapWord at old new) next answer tells uh apart = (apart at old new refl, tt)
  overwrites_none step next answer tells uh apart = tt

  -- Thread t is x in the state r, on these words, and no lower thread can go on, nor is there one with a number from 256 on. The state is
  -- that of a run that keeps no events.
  record IsLowest (r : Progress S) (x : ThreadState S) (p : PlainWords) : Type 0 where
    at : r.core.threads t ≡ Some x
    words : r.core.words ≡ words_in p
    untold : r.keeps ≡ false
    few : (u : ℕ) → 256 ≤ u → r.core.threads u ≡ None
    none : (u : ℕ) → u < t → IsEnabledIn code r (r.core.threads u) → ⊥
    apart : (u : ℕ) (uh : ThreadState S) → u < t → r.core.threads u ≡ Some uh → StaysApart code b p x uh

  -- turns of thread t, as many as there are moves, lead from the run to one whose state has this thread and these words, and the same else
  record Led (run : Run (Progress S)) (count : ℕ) (last : ThreadState S) (v : Words) : Type 0 where
    threads : List ℕ
    long : length threads ≡ count
    next : Run (Progress S)
    follows : Follows (word_turns code b) run threads next
    rest : 0 < count → next.rest ≡ none_left
    all : next.state.core.threads ≡ set_at run.state.core.threads t (Some last)
    words : next.state.core.words ≡ v
    untold : next.state.keeps ≡ false
    opened : opened_in next.state.acts ≡ opened_in run.state.acts
    undone : undone_in next.state.acts ≡ undone_in run.state.acts

  module _ (under : t < 256) where
    other_than : (u : ℕ) → u < t → u ≢ t
    other_than u less same = omega (arith, less, same)

    past_other : (u : ℕ) → 256 ≤ u → u ≢ t
    past_other u past same = omega (arith, past, same, under)

    -- the enabled thread is picked, and has the turn
    one_turn : (run : Run (Progress S)) (x : ThreadState S) (p : PlainWords) (comes : TurnEnd) (new : Progress S) → IsLowest run.state x p → due_of (word_turns code b) run ≡ none_left → is_enabled code (words_in p) x ≡ true
        → (word_turns code b).gives run.state t comes new → ((limit : Limit) → comes ≡ ends.Spent limit → ⊥) → IsTurn (word_turns code b) run t comes (record { state = new; rest = none_left })
    one_turn run x p comes new low due can given unspent = record {
      goes_on = unstopped code b run.state low.untold;
      gets = subst (λ n. GetsTurn (word_turns code b) run.state (due_of (word_turns code b) run).order n t) (sym (ap (λ (rest : Rest). rest.number) due))
          (subst (λ order. GetsTurn (word_turns code b) run.state order None t) (sym (ap (λ (rest : Rest). rest.order) due))
          (lowest_picked code run.state t low.few (subst (IsEnabledIn code run.state) (sym low.at) (subst (λ w. is_enabled code w x ≡ true) (sym low.words) can)) low.none));
      given = given;
      unspent = unspent;
      leaves = ap (λ rest. rest_after rest comes) (sym due);
    }

    -- the turns of a run and those that come after them
    then_led : (run : Run (Progress S)) (comes : TurnEnd) (new : Progress S) (mid last : ThreadState S) (v : Words) (count : ℕ) → (word_turns code b).gives run.state t comes new
        → opens_by comes ≡ 0 → undoes_by comes ≡ 0 → IsTurn (word_turns code b) run t comes (record { state = new; rest = none_left })
        → new.core.threads ≡ set_at run.state.core.threads t (Some mid) → Led (record { state = new; rest = none_left }) count last v → Led run (suc count) last v
    then_led run comes new mid last v count given opens undoes turn threads later =
        let counts = turns_count code b run.state t comes new given in
        let opened = counts.opened in
        let undone = counts.undone in
        let more_opened = later.opened in
        let more_undone = later.undone in
        let long = later.long in
        record {
          threads = t ∷ later.threads;
          long = ap suc long;
          next = later.next;
          follows = (comes, record { state = new; rest = none_left }, turn, later.follows);
          rest = λ some. by_count count later.rest (nothing_more count later.next later.threads long later.follows);
          all = later.all ∙ ap (λ f. set_at f t (Some last)) threads ∙ set_at-twice run.state.core.threads t (Some mid) (Some last);
          words = later.words;
          untold = later.untold;
          opened = omega (arith, opened, opens, more_opened);
          undone = omega (arith, undone, undoes, more_undone);
        }
      where
        nothing_more : (count : ℕ) (next : Run (Progress S)) (threads : List ℕ) → length threads ≡ count → Follows (word_turns code b) (record { state = new; rest = none_left }) threads next → count ≡ 0 → next.rest ≡ none_left
        nothing_more count next [] long same none = ap (λ (r : Run (Progress S)). r.rest) same
        nothing_more count next (u ∷ threads) long same none = let past : suc (length threads) ≡ count = long in absurd (omega (arith, past, none))

        by_count : (count : ℕ) → (0 < count → later.next.rest ≡ none_left) → (count ≡ 0 → later.next.rest ≡ none_left) → later.next.rest ≡ none_left
        by_count zero some none = none refl
        by_count (suc n) some none = some (omega arith)

    no_test : (r : Progress S) (uh : ThreadState S) → (IsEnabledIn code r (Some uh) → ⊥) → is_enabled code r.core.words uh ≡ false
    no_test r uh never = by_test (is_enabled code r.core.words uh) refl
      where
        by_test : (test : Bool) → is_enabled code r.core.words uh ≡ test → is_enabled code r.core.words uh ≡ false
        by_test true is = absurd (never is)
        by_test false is = is

    led : (moves : List TurnMove) (run : Run (Progress S)) (x last : ThreadState S) (p q : PlainWords) → IsLowest run.state x p → due_of (word_turns code b) run ≡ none_left
        → Turns code b Stepped x p moves last q → AreUsual code b (words_in p) x moves → Led run (length moves) last (words_in q)
    led [] run x last p q low due (same, port) usual = record {
      threads = [];
      long = refl;
      next = run;
      follows = refl;
      rest = λ some. absurd (omega (arith, some));
      all = sym (set_at-same run.state.core.threads t (Some last) (low.at ∙ ap Some (sym same)));
      words = low.words ∙ ap words_in (sym port);
      untold = low.untold;
      opened = refl;
      undone = refl;
    }
    led (silent ∷ moves) run x last p q low due (l, is, steps, turns) (can, usual) =
        then_led run ends.Other new (after_quiet x l) last (words_in q) (length moves) given refl refl (one_turn run x p ends.Other new low due can given (λ limit is. cc)) refl
        (led moves (record { state = new; rest = none_left }) (after_quiet x l) last p q lower refl turns (usual l steps))
      where
        new : Progress S
        new = after_silent run.state t x l

        given : (word_turns code b).gives run.state t ends.Other new
        given = (x, low.at, subst (λ move. GivesBy code b run.state t x move ends.Other new) (sym is) (subst (λ o. GivesQuiet run.state t x o ends.Other new) (sym steps) (refl, refl)))

        lower : IsLowest new (after_quiet x l) p
        lower = record {
          at = set_at-hit run.state.core.threads t (Some (after_quiet x l));
          words = low.words;
          untold = low.untold;
          few = λ u past. set_at-other run.state.core.threads t (Some (after_quiet x l)) u (past_other u past) ∙ low.few u past;
          none = λ u less does. low.none u less (subst (IsEnabledIn code run.state) (set_at-other run.state.core.threads t (Some (after_quiet x l)) u (other_than u less)) does);
          apart = λ u uh less there. λ more end y later at old new makes. low.apart u uh less (sym (set_at-other run.state.core.threads t (Some (after_quiet x l)) u (other_than u less)) ∙ there)
              (silent ∷ more) end y (l, is, steps, later) at old new makes;
        }
    led (made next step answer tells ∷ moves) run x last p q low due (z, wants, is, stepped, able, tells_is, turns) (can, both, usual) =
        then_led run comes new mid last (words_in q) (length moves) given plain.opens plain.undoes (one_turn run x p comes new low due can given (λ limit is. cc)) threads
        (led moves (record { state = new; rest = none_left }) mid last z q lower refl turns (subst (λ w. AreUsual code b w mid moves) (sym stepped.words.leaves) usual))
      where
        parts : (is_usual_step (words_in p) step ≡ true) × (goes_through tells ≡ true)
        parts = and_parts (is_usual_step (words_in p) step) (goes_through tells) both

        plain : IsPlain code step
        plain = usual_plain code (words_in p) step parts.0

        comes : TurnEnd
        comes = ends.Made (kind_of step)

        mid : ThreadState S
        mid = after_answer code b x step answer

        new : Progress S
        new = after_step code b run.state t x step answer

        answered : answer ≡ answer_of run.state.core.words step
        answered = stepped.words.answers ∙ ap (λ w. answer_of w step) (sym low.words)

        given : (word_turns code b).gives run.state t comes new
        given = (
          x,
          low.at,
          subst (λ move. GivesBy code b run.state t x move comes new) (sym is)
              (sym (through_made step tells parts.1) ∙ ap (end_of step) tells_is ∙ ap (λ a. end_of step (told code b x step a)) answered, ap (λ a. after_step code b run.state t x step a) answered),
        )

        threads : new.core.threads ≡ set_at run.state.core.threads t (Some mid)
        threads = plain.threads x.local (set_at run.state.core.threads t (Some mid))

        as_before : (u : ℕ) → u ≢ t → new.core.threads u ≡ run.state.core.threads u
        as_before u other = ap (λ f. f u) threads ∙ set_at-other run.state.core.threads t (Some mid) u other

        still_waits : (u : ℕ) → u < t → (th : Option (ThreadState S)) → run.state.core.threads u ≡ th → IsEnabledIn code new th → ⊥
        still_waits u less None there does = does
        still_waits u less (Some uh) there does =
            let kept : is_enabled code (words_in p) uh ≡ false = subst (λ w. is_enabled code w uh ≡ false) low.words (no_test run.state uh (λ able. low.none u less (subst (IsEnabledIn code run.state) (sym there) able))) in
            let later : is_enabled code (words_after step (words_in p)) uh ≡ false = (waiting_stay code b x uh mid (words_in p) (words_after step (words_in p)) (made next step answer tells ∷ [])
            (words_after step (words_in p), wants, is, record { answers = stepped.words.answers; leaves = refl }, able, tells_is, (refl, refl)) (can, both, tt) kept
            (overwrites_none step next answer tells uh (λ at old new same. low.apart u uh less there [] x p (refl, refl) at old new (is ∙ ap Make same)))).1 in
            let now : is_enabled code new.core.words uh ≡ false = ap (λ w. is_enabled code (words_after step w) uh) low.words ∙ later in
            true_is_false (sym does ∙ now)
          where
            true_is_false : true ≡ false → ⊥
            true_is_false e = cc

        lower : IsLowest new mid z
        lower = record {
          at = ap (λ f. f t) threads ∙ set_at-hit run.state.core.threads t (Some mid);
          words = ap (words_after step) low.words ∙ sym stepped.words.leaves;
          untold = low.untold;
          few = λ u past. as_before u (past_other u past) ∙ low.few u past;
          none = λ u less does. still_waits u less (run.state.core.threads u) refl (subst (IsEnabledIn code new) (as_before u (other_than u less)) does);
          apart = λ u uh less there. λ more end y later at old new makes. low.apart u uh less (sym (as_before u (other_than u less)) ∙ there)
              (made next step answer tells ∷ more) end y (z, wants, is, stepped, able, tells_is, later) at old new makes;
        }

-- no turn leaves the thread and the words as they were
pub none_usual : {S : Type 0} (code : Code S) (b : Bounds) (n : ℕ) (words new : PlainWords) (old next : Option (ThreadState S)) → n ≤ 0 → MakesUsual code b n words old new next → (next ≡ old) × (new ≡ words)
none_usual code b n words new None next none (zero_is, same, is) = (is, same)
none_usual code b n words new (Some th) next none (last, is, k, l, usual) = by_moves usual.moves usual.turns usual.count
  where
    by_moves : (moves : List TurnMove) → Turns code b Stepped th words moves last new → n ≡ length moves → (next ≡ Some th) × (new ≡ words)
    by_moves [] (same, port) count = (is ∙ ap Some same, port)
    by_moves (move ∷ moves) turns count = let some : n ≡ suc (length moves) = count in absurd (omega (arith, none, some))

-- usual turns leave the areas of the words as they are
pub usual_areas : {S : Type 0} (code : Code S) (b : Bounds) (n : ℕ) (words new : PlainWords) (old next : Option (ThreadState S)) → MakesUsual code b n words old new next → new.areas ≡ words.areas
usual_areas code b n words new None next (zero_is, same, is) = ap (λ w. w.areas) same
usual_areas code b n words new (Some th) next (last, is, k, l, usual) = areas_stay code b usual.moves th last words new usual.turns

module _ {C S : Type 0} {G : Ghosts C} (code : Code S) (state : C → S) (saved : C → List S) (b : Bounds) (t n : ℕ) (first old new : WordRun C G) where
  abbrev meant : JThread C → ThreadState S
  meant = thread_of state saved

  -- what usual turns of thread t make in memory
  pub record IsUsualStretch : Type 0 where
    pub made : MakesUsual code b n old.machine.words (threads_in meant old.machine.seats.places.items t) new.machine.words (threads_in meant new.machine.seats.places.items t)
    pub others : threads_in meant new.machine.seats.places.items ≡ set_at (threads_in meant old.machine.seats.places.items) t (threads_in meant new.machine.seats.places.items t)
    pub opened : new.opened ≡ old.opened
    pub undone : new.undone ≡ old.undone

  pub no_stretch : n ≤ 0 → IsUsualStretch → new.machine.bounds ≡ old.machine.bounds → IsSame meant old new
  no_stretch none stretch bounds =
      let same = none_usual code b n old.machine.words new.machine.words (threads_in meant old.machine.seats.places.items t) (threads_in meant new.machine.seats.places.items t) none stretch.made in
      record {
        bounds = bounds;
        words = same.1;
        threads = stretch.others ∙ set_at-same (threads_in meant old.machine.seats.places.items) t (threads_in meant new.machine.seats.places.items t) (sym same.0);
        opened = stretch.opened;
        undone = stretch.undone;
      }

  -- Where no number is drawn, usual turns of a thread are the next ones, if none below it can go on.
  pub usual_stretch : 0 < n → IsSame meant first old → IsUsualStretch → ((u : ℕ) → 256 ≤ u → threads_in meant first.machine.seats.places.items u ≡ None) → t < 256
      → ((u : ℕ) → u < t → CanGoOn code meant first.machine.words first.machine.seats.places.items u → ⊥) → AreReady code meant b old.machine.words old.machine.seats.places.items
      → first.rest ≡ none_left → new.rest ≡ none_left → GoesOnPicked code meant b first None new
  usual_stretch some same stretch few low none ready rest left = λ run place through draws.
      by_seat run (place_as code state saved b first old new run place same) place (nothing_due code b run through (draws ∙ ap (λ (r : Rest). r.number) rest))
      (seat_in old.machine.seats.places.items t) refl stretch.made
    where
      by_seat : (run : Run (Progress S)) → IsPlaceOf meant old run.state → IsPlaceOf meant first run.state → due_of (word_turns code b) run ≡ none_left → (seat : Option (JThread C)) → seat_in old.machine.seats.places.items t ≡ seat
          → MakesUsual code b n old.machine.words (option_map meant seat) new.machine.words (threads_in meant new.machine.seats.places.items t) → GoesTo code meant b run None new
      by_seat run place begin due None at (zero_is, same_words, is) = absurd (omega (arith, some, zero_is))
      by_seat run place begin due (Some x) at (last, is, k, l, usual) =
          let done = led code b t low usual.moves run (meant x) last old.machine.words new.machine.words lowest due usual.turns usual.usual in
          let count = usual.count in
          let long = done.long in
          let more : 0 < length usual.moves = omega (arith, some, count) in (
            done.next,
            record { threads = done.threads; some = omega (arith, more, long); follows = done.follows },
            record {
              core = record {
                words = done.words;
                threads = done.all ∙ ap (λ f. set_at f t (Some last)) place.core.threads ∙ ap (set_at (threads_in meant old.machine.seats.places.items) t) (sym is) ∙ sym stretch.others;
              };
              untold = done.untold;
              opens = stretch.opened ∙ place.opens ∙ sym done.opened;
              undoes = stretch.undone ∙ place.undoes ∙ sym done.undone;
            },
            done.rest more ∙ sym left,
          )
        where
          seat_of : (u : ℕ) (uh : ThreadState S) (seat : Option (JThread C)) → seat_in old.machine.seats.places.items u ≡ seat → option_map meant seat ≡ Some uh → (y : JThread C) × (seat_in old.machine.seats.places.items u ≡ Some y) × (meant y ≡ uh)
          seat_of u uh None here there = absurd (cc)
          seat_of u uh (Some y) here there = (y, here, some_is (meant y) uh there)
            where
              some_is : (a c : ThreadState S) → Some a ≡ Some c → a ≡ c
              some_is a c e = cc

          lowest : IsLowest code b t run.state (meant x) old.machine.words
          lowest = record {
            at = ap (λ f. f t) place.core.threads ∙ ap (option_map meant) at;
            words = place.core.words;
            untold = place.untold;
            few = λ u past. ap (λ f. f u) begin.core.threads ∙ few u past;
            none = λ u less can. none u less (enabled_can code state saved first.machine.words first.machine.seats.places.items b run.state u begin.core can);
            apart = λ u uh less there.
                let seat = seat_of u uh (seat_in old.machine.seats.places.items u) refl (sym (ap (λ f. f u) place.core.threads) ∙ there) in
                subst (StaysApart code b old.machine.words (meant x)) seat.2 (ready.apart t u x seat.0 at seat.1 (λ same. omega (arith, less, same)));
          }
