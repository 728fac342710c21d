-- A run in memory that follows a schedule and keeps a journal.
use Rattle.std.specs.Prelude.{◌≡◌, ◌≤◌, ◌||◌, ℕ, Bool, true, false, not, Option, None, Some, List, [], length, nat_eq}
use Rattle.op_core.specs.declared.thread_code.ThreadCode.{Ghosts}
use Rattle.op_core.specs.declared.How.{How}
use Rattle.op_core.specs.ThreadCode.{Code}
use Rattle.schedules.specs.declared.order.TurnEnd.{TurnEnd}
use Rattle.schedules.specs.declared.order.TurnEnd.TheVariants.{Other}
use Rattle.schedules.specs.Schedule.{Rest, order_after, rest_after}
use Rattle.schedules.specs.Run.{Run, due_of, IsNext, IsTurn, EndsBy}
use Rattle.thread_automaton.specs.declared.Bounds.{Bounds}
use Rattle.thread_automaton.specs.ThreadState.{ThreadState}
use Rattle.plain_words.specs.declared.plain.PlainWords.{PlainWords}
use Rattle.thread_moves.specs.declared.thread.JThread.{JThread}
use Rattle.core_runs.specs.Cores.{Core}
use Rattle.core_runs.specs.Acts.{ActFrom}
use Rattle.section_laws.specs.Runs.{IsBeginning}
use Rattle.word_runs.specs.WordTurns.{Progress, last_mover, word_turns}
use Rattle.word_runs.specs.Laws.{AreActs}
use Rattle.word_machine.specs.declared.told_turn.ToldTurn.{ToldTurn}
use Rattle.word_machine.specs.Seats.{seat_in}
use Rattle.word_machine.specs.Machine.{threads_in, IsCoreOf}
use Rattle.section_laws.specs.Lines.{LinesHaveTickets}
use Rattle.word_texts.specs.Texts.{AreTextsOf}
use Rattle.trace_journal.specs.Text.{events_in, undos_in}
use Rattle.journal_rows.specs.Told.{RowsTold, after_row_calls, items_left}
use Rattle.journal_rows.specs.Rows.{AreRowsTold}
use Rattle.core_law.specs.Calls.{end_calls_told}
use Rattle.sched_core.specs.Outcome.{AreEnds}
use Rattle.traced_runs.specs.declared.outcome.TracedOutcome.{TracedOutcome}
use Rattle.sched_core.specs.Counts.{opened_in, undone_in}
use Rattle.sched_core.specs.ScheduledRun.{how_at, CanGoOn}
use Rattle.traced_runs.specs.declared.traced_run.TracedRun.{TracedRun}
use Rattle.traced_runs.specs.Told.{told_at, AreRowsOfActs}

abbrev pub is_other : TurnEnd → Bool
is_other Other = true
is_other end = false

-- the turn made an act: a step, or a silent one
abbrev pub is_act : ToldTurn → Bool
is_act turn = not (nat_eq turn.kind 0) || is_other turn.end

-- In memory is the core of this place of a run that keeps a journal, with the rows that its acts have told and what was counted.
pub record IsTracedPlace {C S : Type 0} {G : Ghosts C} (code : Code S) (meant : JThread C → ThreadState S) (b : Bounds) (core : Core S) (w : TracedRun C G) (r : Progress S) : Type 0 where
  pub now : IsCoreOf meant w.machine.words w.machine.seats.places.items r.core
  pub keeps : r.keeps ≡ true
  pub opens : w.opened ≡ opened_in r.acts
  pub undoes : w.undone ≡ undone_in r.acts
  pub mover : w.last ≡ last_mover r.acts
  pub rows : AreRowsOfActs code b core r.acts w.rows
  pub shown : (c : ℕ → Core S) → c 0 ≡ core → ActFrom code b c 0 r.acts → r.shown ≡ length (told_at code b c r.acts (length r.acts)).items

-- the words and threads in memory are those at a place of a run from its beginning
pub record IsReached {C S : Type 0} (code : Code S) (meant : JThread C → ThreadState S) (b : Bounds) (words : PlainWords) (places : List (Option (JThread C))) : Type 0 where
  pub core : Core S
  pub begins : IsBeginning core
  pub place : Progress S
  pub acts : AreActs code b core place
  pub now : IsCoreOf meant words places place.core

-- Of each run at a place whose core is in memory, with this left of its schedule: the order is through and no thread can go on, or
-- this thread, which is there, has the next turn, and what the turn leaves of the schedule is what it leaves of `new`.
abbrev pub IsNextOf : {C S : Type 0} → Code S → (JThread C → ThreadState S) → Bounds → PlainWords → List (Option (JThread C)) → Rest → Option ℕ → Rest → Type 0
IsNextOf {C} {S} code meant b words places old None new = ((t : ℕ) → CanGoOn code meant words places t → ⊥)
    × ((run : Run (Progress S)) → IsCoreOf meant words places run.state.core → run.rest ≡ old → (due_of (word_turns code b) run).order ≡ [])
IsNextOf {C} {S} code meant b words places old (Some t) new = ((x : JThread C) × (seat_in places t ≡ Some x))
    × ((run : Run (Progress S)) → IsCoreOf meant words places run.state.core → run.rest ≡ old → IsNext (word_turns code b) run t
    × ((end : TurnEnd) → rest_after (due_of (word_turns code b) run) end ≡ record new { order = order_after new.order end }))

-- from each such place a turn of thread t comes to this, and leads to one that is then in memory
abbrev pub GivesTraced : {C S : Type 0} {G : Ghosts C} → Code S → (JThread C → ThreadState S) → Bounds → TracedRun C G → ℕ → TurnEnd → TracedRun C G → Type 0
GivesTraced {C} {S} code meant b old t end new = (core : Core S) → IsBeginning core → (r : Progress S) → AreActs code b core r → IsTracedPlace code meant b core old r
    → (next : Progress S) × (word_turns code b).gives r t end next × IsTracedPlace code meant b core new next

-- so it does, the run ends where the turn is spent, and what the turn uses up of the order is taken off
abbrev pub GivesTracedNext : {C S : Type 0} {G : Ghosts C} → Code S → (JThread C → ThreadState S) → Bounds → TracedRun C G → ℕ → Option How → TracedRun C G → Type 0
GivesTracedNext code meant b old t how new = (end : TurnEnd) × (how ≡ how_at t end) × (new.rest ≡ record old.rest { order = order_after old.rest.order end }) × GivesTraced code meant b old t end new

-- one turn leads from one run to the next
pub record GoesATurn {S : Type 0} (code : Code S) (b : Bounds) (run next : Run (Progress S)) : Type 0 where
  pub thread : ℕ
  pub end : TurnEnd
  pub turn : IsTurn (word_turns code b) run thread end next

-- A turn leads from the run to the next one, which is then in memory; or the run ends in this way, and its place is in memory still.
abbrev pub GoesTracedTo : {C S : Type 0} {G : Ghosts C} → Code S → (JThread C → ThreadState S) → Bounds → Core S → Run (Progress S) → Option How → TracedRun C G → Type 0
GoesTracedTo {C} {S} code meant b core run None new = (next : Run (Progress S)) × GoesATurn code b run next × IsTracedPlace code meant b core new next.state × (next.rest ≡ new.rest)
GoesTracedTo code meant b core run (Some how) new = EndsBy (word_turns code b) run how × IsTracedPlace code meant b core new run.state

abbrev pub GoesTraced : {C S : Type 0} {G : Ghosts C} → Code S → (JThread C → ThreadState S) → Bounds → TracedRun C G → Option How → TracedRun C G → Type 0
GoesTraced {C} {S} code meant b old how new = (core : Core S) → IsBeginning core → (run : Run (Progress S)) → AreActs code b core run.state → IsTracedPlace code meant b core old run.state
    → run.rest ≡ old.rest → GoesTracedTo code meant b core run how new

-- What is in memory says so of a run that ends in this way.
pub record SaysTracedRun {C S : Type 0} {G : Ghosts C} (code : Code S) (meant : JThread C → ThreadState S) (w : TracedRun C G) (end : How) (outcome : TracedOutcome) : Type 0 where
  pub how : outcome.run.how ≡ end
  pub lines : (core : Core S) → IsCoreOf meant w.machine.words w.machine.seats.places.items core → LinesHaveTickets core → outcome.run.lines ≡ core.lines
  pub ends : (core : Core S) → IsCoreOf meant w.machine.words w.machine.seats.places.items core → AreEnds code core outcome.run.ends
  pub opened : outcome.run.opened ≡ w.opened
  pub undone : outcome.run.undone ≡ w.undone
  pub made : (core : Core S) → IsCoreOf meant w.machine.words w.machine.seats.places.items core → AreTextsOf core outcome.run.lines outcome.run.made
  pub count : ℕ
  pub above : (t : ℕ) → count ≤ t → threads_in meant w.machine.seats.places.items t ≡ None
  pub events : (core : Core S) → IsCoreOf meant w.machine.words w.machine.seats.places.items core → (s : RowsTold) → AreRowsTold w.rows s
      → outcome.journal.events ≡ events_in (items_left (after_row_calls (end_calls_told core count) s))
  pub undos : (core : Core S) → IsCoreOf meant w.machine.words w.machine.seats.places.items core → (s : RowsTold) → AreRowsTold w.rows s
      → outcome.journal.undos ≡ undos_in 0 (items_left (after_row_calls (end_calls_told core count) s))
