-- A run in memory that keeps a journal, from its beginning to its end.
use Rattle.std.proofs.Common.{◌≡◌, ℕ, ◌<◌, ◌≤◌, Bool, true, false, Option, None, Some, List, [], ◌∷◌, ◌++◌, length, refl, sym, ◌∙◌, ap, subst}
use Rattle.std.specs.Prelude.{nat_le, if◌then◌else◌}
use Rattle.std.specs.Option.{option_map}
use Rattle.std.proofs.lemmas.Bool.{le-leb, lt-leb}
use Rattle.op_core.specs.declared.thread_code.ThreadCode.{Ghosts}
use Rattle.op_core.specs.declared.How.{How}
use Rattle.op_core.specs.declared.How.TheVariants as hows
use Rattle.op_core.specs.declared.Limit.TheVariants.{Trace}
use Rattle.op_core.specs.ThreadCode.{Code}
use Rattle.op_core.specs.OrdinaryState.{set_at}
use Rattle.heap_words.specs.declared.areas.Areas.{Areas}
use Rattle.schedules.specs.declared.order.Schedule.{Schedule}
use Rattle.schedules.specs.declared.order.TurnEnd.{TurnEnd}
use Rattle.schedules.specs.declared.order.TurnEnd.TheVariants as ends
use Rattle.schedules.specs.Schedule.{Rest, order_after, rest_after}
use Rattle.schedules.specs.Run.{Run, due_of, IsNext, Follows, EndsOfItself, EndsWith, EndsBy}
use Rattle.thread_automaton.specs.declared.Bounds.{Bounds}
use Rattle.thread_automaton.specs.ThreadState.{ThreadState, first_state}
use Rattle.plain_words.specs.Table.{words_in}
use Rattle.thread_moves.specs.declared.thread.JThread.{JThread}
use Rattle.thread_moves.specs.Thread.{thread_of}
use Rattle.core_runs.specs.Cores.{Core}
use Rattle.section_laws.specs.Runs.{IsBeginning}
use Rattle.word_runs.specs.WordTurns.{Progress, last_mover, most_shown, word_turns}
use Rattle.word_runs.specs.Laws.{begun_with, AreActs}
use Rattle.word_runs.proofs.TurnLemmas.{turns_are_acts}
use Rattle.word_machine.specs.Seats.{seat_in}
use Rattle.word_machine.specs.Machine.{threads_in}
use Rattle.core_law.specs.Calls.{end_calls_told}
use Rattle.journal_rows.specs.Told.{RowsTold, nothing_told, after_row_calls, items_left}
use Rattle.journal_rows.specs.Rows.{AreRowsTold}
use Rattle.trace_journal.specs.Text.{events_in, undos_in}
use Rattle.sched_core.specs.Outcome.{rest_of}
use Rattle.sched_core.specs.Readiness.{IsWell, StaysWell}
use Rattle.sched_core.specs.ScheduledRun.{how_at, AreReady}
use Rattle.sched_core.proofs.CountLemmas.{spent_stays}
use Rattle.sched_core.proofs.ReadyLemmas.{stays_ready, stays_apart}
use Rattle.sched_core.proofs.RunLemmas.{follows_more}
use Rattle.traced_runs.specs.declared.outcome.TracedOutcome.{TracedOutcome}
use Rattle.traced_runs.specs.declared.traced_run.TracedRun.{TracedRun}
use Rattle.traced_runs.specs.Outcome.{IsTracedOutcome}
use Rattle.traced_runs.specs.Told.{told_at}
use Rattle.traced_runs.specs.TracedRun.{IsTracedPlace, IsReached, IsNextOf, GivesTracedNext, GoesTracedTo, GoesTraced, SaysTracedRun}
use Rattle.traced_runs.proofs.CoreLemmas.{leads_there}

-- ---- whether the journal is full

module _ {C S : Type 0} {G : Ghosts C} (code : Code S) (meant : JThread C → ThreadState S) (b : Bounds) (core : Core S) (w : TracedRun C G) (r : Progress S) (are : AreActs code b core r) (place : IsTracedPlace code meant b core w r)
    (count : ℕ) (counts : (s : RowsTold) → AreRowsTold w.rows s → count ≡ length s.items) where
  shown_is : r.shown ≡ count
  shown_is = place.shown are.cores are.begins are.leads ∙ sym (counts _ (place.rows are.cores are.begins are.leads))

  stop_is : (full : Bool) → nat_le most_shown count ≡ full → (word_turns code b).stopped r ≡ (if full then Some (last_mover r.acts, Trace) else None)
  stop_is full is = ap (λ keeps. (word_turns code b).stopped (record r { keeps = keeps })) place.keeps ∙ ap (λ n. if nat_le most_shown n then Some (last_mover r.acts, Trace) else None) shown_is
      ∙ ap (λ t. if t then Some (last_mover r.acts, Trace) else None) is

  pub is_full : most_shown ≤ count → (run : Run (Progress S)) → run.state ≡ r → EndsBy (word_turns code b) run (hows.Limit w.last Trace)
  is_full full run same = subst (λ stop. EndsWith (word_turns code b) run stop (hows.Limit w.last Trace)) (sym (ap (word_turns code b).stopped same ∙ stop_is true (le-leb most_shown count full))) (ap (λ t. hows.Limit t Trace) place.mover)

  pub has_room : count < most_shown → (word_turns code b).stopped r ≡ None
  has_room room = stop_is false (lt-leb most_shown count room)

-- ---- the next turn

module _ {C S : Type 0} {G : Ghosts C} (code : Code S) (meant : JThread C → ThreadState S) (b : Bounds) (old mid new : TracedRun C G) (core : Core S) (begins : IsBeginning core) (run : Run (Progress S))
    (are : AreActs code b core run.state) (place : IsTracedPlace code meant b core old run.state) (left : run.rest ≡ old.rest) (goes_on : (word_turns code b).stopped run.state ≡ None) where
  pub gives_next : (t : ℕ) (how : Option How) → IsTracedPlace code meant b core mid run.state → IsNextOf code meant b old.machine.words old.machine.seats.places.items old.rest (Some t) mid.rest
      → GivesTracedNext code meant b mid t how new → GoesTracedTo code meant b core run how new
  gives_next t how here next (comes, how_is, rest_is, gives) =
      let given = gives core begins run.state are here in
      let turns = next.1 run place.now left in
      subst (λ h. GoesTracedTo code meant b core run h new) (sym how_is) (by_end comes given.0 given.1 given.2 rest_is turns.0 (turns.1 comes))
    where
      by_end : (comes : TurnEnd) (after : Progress S) → (word_turns code b).gives run.state t comes after → IsTracedPlace code meant b core new after → new.rest ≡ record mid.rest { order = order_after mid.rest.order comes }
          → IsNext (word_turns code b) run t → rest_after (due_of (word_turns code b) run) comes ≡ record mid.rest { order = order_after mid.rest.order comes } → GoesTracedTo code meant b core run (how_at t comes) new
      by_end (ends.Spent limit) after given placed rest_is gets rests =
          let same : after ≡ run.state = spent_stays code b run.state t limit after given in (
            subst (λ stop. EndsWith (word_turns code b) run stop (hows.Limit t limit)) (sym goes_on) (gets, subst (λ s. (word_turns code b).gives run.state t (ends.Spent limit) s) same given),
            subst (IsTracedPlace code meant b core new) same placed,
          )
      by_end comes after given placed rest_is gets rests = (
        record { state = after; rest = rest_after (due_of (word_turns code b) run) comes },
        record { thread = t; end = comes; turn = record { goes_on = goes_on; gets = gets; given = given; unspent = λ limit is. cc; leaves = refl } },
        placed,
        rests ∙ sym rest_is,
      )

  pub ends_itself : (how : How) → IsTracedPlace code meant b core mid run.state → EndsOfItself (word_turns code b) run how → GoesTracedTo code meant b core run (Some how) mid
  ends_itself how here ends = (subst (λ stop. EndsWith (word_turns code b) run stop how) (sym goes_on) ends, here)

-- ---- from the beginning

-- The run in memory is at a place to which turns of some threads lead from the beginning.
pub record HasTraced {C S : Type 0} {G : Ghosts C} (code : Code S) (meant : JThread C → ThreadState S) (b : Bounds) (areas : Areas) (core : Core S) (rest : Rest) (w : TracedRun C G) : Type 0 where
  pub threads : List ℕ
  pub last : Run (Progress S)
  pub follows : Follows (word_turns code b) (begun_with core rest true) threads last
  pub place : IsTracedPlace code meant b core w last.state
  pub left : last.rest ≡ w.rest
  pub bounds : w.machine.bounds ≡ b
  pub areas_are : w.machine.words.areas ≡ areas

module _ {C S : Type 0} (code : Code S) (state : C → S) (saved : C → List S) (b : Bounds) (areas : Areas) (core : Core S) (rest : Rest) where
  abbrev meant : JThread C → ThreadState S
  meant = thread_of state saved

  abbrev Come : {G : Ghosts C} → TracedRun C G → Type 0
  Come w = HasTraced code meant b areas core rest w

  pub come_first : {G : Ghosts C} (w : TracedRun C G) (main : JThread C) (l : S) → w.machine.bounds ≡ b → w.machine.words.areas ≡ areas → core.words ≡ words_in w.machine.words
      → threads_in meant w.machine.seats.places.items ≡ set_at (λ t. None) main.own.number (Some (meant main)) → meant main ≡ first_state 1 5 l
      → core.threads ≡ set_at (λ t. None) 1 (Some (first_state 1 5 l)) → rest ≡ w.rest → AreRowsTold w.rows nothing_told → w.last ≡ 0 → w.opened ≡ 0 → w.undone ≡ 0 → Come w
  come_first w main l bounds areas_are words threads main_is begins rest_is rows last opened undone = record {
    threads = [];
    last = begun_with core rest true;
    follows = refl;
    place = record {
      now = record {
        words = words;
        threads = begins ∙ ap (λ (th : ThreadState S). set_at (λ t. None) th.number (Some th)) (sym main_is) ∙ sym threads;
      };
      keeps = refl;
      opens = opened;
      undoes = undone;
      mover = last;
      rows = λ c first leads. rows;
      shown = λ c first leads. refl;
    };
    left = rest_is;
    bounds = bounds;
    areas_are = areas_are;
  }

  come_acts : {G : Ghosts C} (w : TracedRun C G) → (come : Come w) → AreActs code b core come.last.state
  come_acts w come = turns_are_acts code b core rest true come.threads come.last come.follows

  is_well : {G : Ghosts C} (w : TracedRun C G) → StaysWell code b areas core → (come : Come w) → IsWell code b areas come.last.state.core
  is_well w well come = let are = come_acts w come in subst (IsWell code b areas) are.ends (well are.cores come.last.state.acts are.begins are.leads)

  pub come_ready : {G : Ghosts C} (w : TracedRun C G) → StaysWell code b areas core → Come w → AreReady code meant w.machine.bounds w.machine.words w.machine.seats.places.items
  come_ready w well come = subst (λ k. AreReady code meant k w.machine.words w.machine.seats.places.items) (sym come.bounds) (record {
    ready = λ t x here. stays_ready code b areas core well t r (meant x) w.machine.words are (stands t x here) come.place.now.words come.areas_are;
    apart = λ t u x y here there other. stays_apart code b areas core well t r (meant x) (meant y) u w.machine.words are (stands t x here) (stands u y there) other come.place.now.words;
  })
    where
      r : Progress S
      r = come.last.state

      are : AreActs code b core r
      are = come_acts w come

      stands : (t : ℕ) (x : JThread C) → seat_in w.machine.seats.places.items t ≡ Some x → r.core.threads t ≡ Some (meant x)
      stands t x here = ap (λ f. f t) come.place.now.threads ∙ ap (option_map meant) here

  pub come_reached : {G : Ghosts C} (w : TracedRun C G) → IsBeginning core → Come w → IsReached code meant w.machine.bounds w.machine.words w.machine.seats.places.items
  come_reached w begins come = subst (λ k. IsReached code meant k w.machine.words w.machine.seats.places.items) (sym come.bounds)
      (record { core = core; begins = begins; place = come.last.state; acts = come_acts w come; now = come.place.now })

  pub come_further : {G : Ghosts C} (old new : TracedRun C G) → IsBeginning core → Come old → new.machine.bounds ≡ old.machine.bounds → new.machine.words.areas ≡ old.machine.words.areas
      → GoesTraced code meant old.machine.bounds old None new → Come new
  come_further old new begins come bounds areas_are goes =
      let (next, on, place, rest_is) = subst (λ k. GoesTraced code meant k old None new) come.bounds goes core begins come.last (come_acts old come) come.place come.left in
      record {
        threads = come.threads ++ on.thread ∷ [];
        last = next;
        follows = follows_more (word_turns code b) (begun_with core rest true) come.last next come.threads on.thread on.end come.follows on.turn;
        place = place;
        left = rest_is;
        bounds = bounds ∙ come.bounds;
        areas_are = areas_are ∙ come.areas_are;
      }

  pub come_to_end : {G : Ghosts C} (old new : TracedRun C G) (how : How) (schedule_is : Schedule) (outcome : TracedOutcome) → rest ≡ rest_of schedule_is → IsBeginning core → StaysWell code b areas core → Come old
      → GoesTraced code meant old.machine.bounds old (Some how) new → SaysTracedRun code meant new how outcome → IsTracedOutcome code b core schedule_is outcome
  come_to_end old new how schedule_is outcome rest_is begins well come goes says =
      let (ends_so, place) = subst (λ k. GoesTraced code meant k old (Some how) new) come.bounds goes core begins come.last (come_acts old come) come.place come.left in
      let r : Progress S = come.last.state in
      record {
        threads = come.threads;
        last = come.last;
        goes = (subst (λ k. Follows (word_turns code b) (begun_with core k true) come.threads come.last) rest_is come.follows, subst (λ h. EndsBy (word_turns code b) come.last h) (sym says.how) ends_so);
        told = record {
          lines = says.lines r.core place.now (is_well old well come).lines;
          ends = says.ends r.core place.now;
          opened = says.opened ∙ place.opens;
          undone = says.undone ∙ place.undoes;
          made = says.made r.core place.now;
        };
        journal = record {
          count = says.count;
          above = λ t past. ap (λ f. f t) place.now.threads ∙ says.above t past;
          items = place.shown;
          events = λ c first leads. says.events r.core place.now (told_at code b c r.acts (length r.acts)) (place.rows c first leads)
              ∙ ap (λ (k : Core S). events_in (items_left (after_row_calls (end_calls_told k says.count) (told_at code b c r.acts (length r.acts))))) (sym (leads_there code b core r (come_acts old come) c first leads));
          undos = λ c first leads. says.undos r.core place.now (told_at code b c r.acts (length r.acts)) (place.rows c first leads)
              ∙ ap (λ (k : Core S). undos_in 0 (items_left (after_row_calls (end_calls_told k says.count) (told_at code b c r.acts (length r.acts))))) (sym (leads_there code b core r (come_acts old come) c first leads));
        };
      }
