-- A run in memory that follows a schedule.
use Rattle.std.specs.Prelude.{◌≡◌, ◌≢◌, ℕ, zero, suc, ◌<◌, ◌≤◌, ◌||◌, Bool, false, true, Option, None, Some, List, [], length, nat_eq, if◌then◌else◌}
use Rattle.op_core.specs.declared.thread_code.ThreadCode.{Ghosts}
use Rattle.op_core.specs.declared.How.{How}
use Rattle.op_core.specs.declared.How.TheVariants as how
use Rattle.op_core.specs.ThreadCode.{Code}
use Rattle.schedules.specs.declared.order.TurnEnd.{TurnEnd}
use Rattle.schedules.specs.declared.order.TurnEnd.TheVariants.{Made, Other, Spent}
use Rattle.schedules.specs.declared.order.OrderItem.{OrderItem}
use Rattle.schedules.specs.declared.order.OrderItem.TheVariants as items
use Rattle.schedules.specs.Schedule.{drawn, order_after}
use Rattle.schedules.specs.Run.{AreThose, Run, due_of, Follows, EndsBy}
use Rattle.thread_automaton.specs.declared.Bounds.{Bounds}
use Rattle.step_port.specs.declared.step.Step.TheVariants.{SwapWord}
use Rattle.thread_automaton.specs.declared.Move.TheVariants.{Make}
use Rattle.thread_automaton.specs.ThreadState.{ThreadState}
use Rattle.thread_automaton.specs.NextMove.{next_move}
use Rattle.plain_words.specs.declared.plain.PlainWords.{PlainWords}
use Rattle.plain_words.specs.Table.{words_in, MayStep, Stepped}
use Rattle.thread_moves.specs.declared.thread.JThread.{JThread}
use Rattle.word_runs.specs.WordTurns.{Progress, word_turns}
use Rattle.word_runs.specs.Laws.{AreActs}
use Rattle.word_machine.specs.Seats.{seat_in}
use Rattle.word_machine.specs.Machine.{threads_in, IsCoreOf, is_enabled_in}
use Rattle.turn_runs.specs.Turns.{TurnMove, Turns, StaysReady}
use Rattle.sched_core.specs.declared.word_run.WordRun.{WordRun}
use Rattle.core_runs.specs.Cores.{Core}
use Rattle.section_laws.specs.Lines.{LinesHaveTickets}
use Rattle.word_texts.specs.Texts.{AreTextsOf}
use Rattle.sched_core.specs.declared.word_outcome.WordOutcome.{WordOutcome}
use Rattle.sched_core.specs.Outcome.{AreEnds}
use Rattle.sched_core.specs.Readiness.{IsNotWaitedFor, StaysWell}
use Rattle.sched_core.specs.Counts.{opened_in, undone_in}

-- how a run ends at a turn of thread t that came to this, if it does
abbrev pub how_at : ℕ → TurnEnd → Option How
how_at t (Spent limit) = Some (how.Limit t limit)
how_at t end = None

-- a turn that came to this opened a section: it made a step of kind 5
abbrev pub opens_by : TurnEnd → ℕ
opens_by (Made kind) = if nat_eq kind 5 then 1 else 0
opens_by end = 0

-- a turn that came to this undid levels: it made a step of kind 10
abbrev pub undoes_by : TurnEnd → ℕ
undoes_by (Made kind) = if nat_eq kind 10 then 1 else 0
undoes_by end = 0

-- of the steps that turns make, those of these kinds load a word and do nothing else
abbrev pub is_load : ℕ → Bool
is_load kind = nat_eq kind 1 || nat_eq kind 6 || nat_eq kind 11 || nat_eq kind 21 || nat_eq kind 24 || nat_eq kind 25

-- a turn that came to this left the shared words and the other threads as they were: it was silent, its exchange was lost, or it
-- loaded a word
abbrev pub leaves_words : TurnEnd → Bool
leaves_words (Made kind) = is_load kind
leaves_words Other = true
leaves_words end = false

-- the thread of this number is there and can go on
abbrev pub CanGoOn : {C S : Type 0} → Code S → (JThread C → ThreadState S) → PlainWords → List (Option (JThread C)) → ℕ → Type 0
CanGoOn code meant words places t = is_enabled_in code (words_in words) (threads_in meant places t) ≡ true

-- the threads that can go on are those in the list, where they are said to be listed
abbrev pub AreListed : {C S : Type 0} {G : Ghosts C} → Code S → (JThread C → ThreadState S) → WordRun C G → Type 0
AreListed code meant w = w.is_listed ≡ true → AreThose (CanGoOn code meant w.machine.words w.machine.seats.places.items) w.enabled.items

-- the item has at least k turns to give
abbrev pub CanGive : ℕ → OrderItem → Type 0
CanGive k (items.Turns t n) = k ≤ n
CanGive k (items.Until t kind) = Unit {0}

-- each turn of the item is taken off it
abbrev pub counts_turns : Option OrderItem → Bool
counts_turns (Some (items.Turns t n)) = true
counts_turns item = false

-- what is left of an order after n turns of its first item, none of which came to what the item asks for
abbrev pub order_left : ℕ → List OrderItem → List OrderItem
order_left zero order = order
order_left (suc n) order = order_after (order_left n order) Other

-- wherever turns of thread th alone lead, it writes no word of an object that is a monitor or a start word for which uh waits
abbrev pub StaysApart : {S : Type 0} → Code S → Bounds → PlainWords → ThreadState S → ThreadState S → Type 0
StaysApart {S} code b words th uh = (moves : List TurnMove) (last : ThreadState S) (y : PlainWords) → Turns code b Stepped th words moves last y
    → (at old new : ℕ) → next_move code b last ≡ Make (SwapWord at old new) → IsNotWaitedFor (code.next uh.local) at

-- Each thread can have its turns, wherever turns of it alone lead, and writes apart from what others wait for.
pub record AreReady {C S : Type 0} (code : Code S) (meant : JThread C → ThreadState S) (b : Bounds) (words : PlainWords) (places : List (Option (JThread C))) : Type 0 where
  pub ready : (t : ℕ) (x : JThread C) → seat_in places t ≡ Some x → StaysReady code b MayStep Stepped (meant x) words
  pub apart : (t u : ℕ) (x y : JThread C) → seat_in places t ≡ Some x → seat_in places u ≡ Some y → t ≢ u → StaysApart code b words (meant x) (meant y)

-- In memory is the core of this place of a run, which keeps no events, with what was counted up to there.
pub record IsPlaceOf {C S : Type 0} {G : Ghosts C} (meant : JThread C → ThreadState S) (w : WordRun C G) (r : Progress S) : Type 0 where
  pub core : IsCoreOf meant w.machine.words w.machine.seats.places.items r.core
  pub untold : r.keeps ≡ false
  pub opens : w.opened ≡ opened_in r.acts
  pub undoes : w.undone ≡ undone_in r.acts

-- The run is at such a place. Acts lead to it from a core from which on all stays well.
pub record IsOnWay {C S : Type 0} {G : Ghosts C} (code : Code S) (meant : JThread C → ThreadState S) (w : WordRun C G) (run : Run (Progress S)) : Type 0 where
  pub core : Core S
  pub well : StaysWell code w.machine.bounds w.machine.words.areas core
  pub acts : AreActs code w.machine.bounds core run.state
  pub place : IsPlaceOf meant w run.state
  pub rest : run.rest ≡ w.rest

-- in memory is the same core as before, with the same counts
pub record IsSame {C S : Type 0} {G : Ghosts C} (meant : JThread C → ThreadState S) (old new : WordRun C G) : Type 0 where
  pub bounds : new.machine.bounds ≡ old.machine.bounds
  pub words : new.machine.words ≡ old.machine.words
  pub threads : threads_in meant new.machine.seats.places.items ≡ threads_in meant old.machine.seats.places.items
  pub opened : new.opened ≡ old.opened
  pub undone : new.undone ≡ old.undone

-- from each such place a turn of thread t comes to this, and leads to one that is then in memory
abbrev pub GivesPlace : {C S : Type 0} {G : Ghosts C} → Code S → (JThread C → ThreadState S) → Bounds → WordRun C G → ℕ → TurnEnd → WordRun C G → Type 0
GivesPlace {C} {S} code meant b old t end new = (r : Progress S) → IsPlaceOf meant old r → (next : Progress S) × (word_turns code b).gives r t end next × IsPlaceOf meant new next

-- so it does, the run ends where the turn is spent, and what the turn uses up of the order is taken off
abbrev pub GivesNext : {C S : Type 0} {G : Ghosts C} → Code S → (JThread C → ThreadState S) → Bounds → WordRun C G → ℕ → Option How → WordRun C G → Type 0
GivesNext code meant b old t how new = (end : TurnEnd) × (how ≡ how_at t end) × (new.rest ≡ record old.rest { order = order_after old.rest.order end }) × GivesPlace code meant b old t end new

-- the turns of some threads, one or more, lead from one run to the next
pub record GoesOn {S : Type 0} (code : Code S) (b : Bounds) (run next : Run (Progress S)) : Type 0 where
  pub threads : List ℕ
  pub some : 0 < length threads
  pub follows : Follows (word_turns code b) run threads next

-- From a run at such a place turns lead to the next one, which is then in memory; or it ends in this way, and its place is in
-- memory still.
abbrev pub GoesTo : {C S : Type 0} {G : Ghosts C} → Code S → (JThread C → ThreadState S) → Bounds → Run (Progress S) → Option How → WordRun C G → Type 0
GoesTo {C} {S} code meant b run None new = (next : Run (Progress S)) × GoesOn code b run next × IsPlaceOf meant new next.state × (next.rest ≡ new.rest)
GoesTo {C} {S} code meant b run (Some how) new = EndsBy (word_turns code b) run how × IsPlaceOf meant new run.state

abbrev pub GoesOnFrom : {C S : Type 0} {G : Ghosts C} → Code S → (JThread C → ThreadState S) → Bounds → WordRun C G → Option How → WordRun C G → Type 0
GoesOnFrom {C} {S} code meant b old how new = (run : Run (Progress S)) → IsPlaceOf meant old run.state → run.rest ≡ old.rest → GoesTo code meant b run how new

-- so it goes from each run of which this is due
abbrev pub GoesOnDue : {C S : Type 0} {G : Ghosts C} → Code S → (JThread C → ThreadState S) → Bounds → WordRun C G → Option How → WordRun C G → Type 0
GoesOnDue {C} {S} code meant b old how new = (run : Run (Progress S)) → IsPlaceOf meant old run.state → due_of (word_turns code b) run ≡ old.rest → GoesTo code meant b run how new

-- so it goes from each run whose order is through, and which draws this number next, if there is one
abbrev pub GoesOnPicked : {C S : Type 0} {G : Ghosts C} → Code S → (JThread C → ThreadState S) → Bounds → WordRun C G → Option How → WordRun C G → Type 0
GoesOnPicked {C} {S} code meant b old how new = (run : Run (Progress S)) → IsPlaceOf meant old run.state → (due_of (word_turns code b) run).order ≡ []
    → drawn run.rest.number ≡ old.rest.number → GoesTo code meant b run how new

-- What is in memory says so of a run that ends in this way.
pub record SaysRun {C S : Type 0} {G : Ghosts C} (code : Code S) (meant : JThread C → ThreadState S) (w : WordRun C G) (end : How) (outcome : WordOutcome) : Type 0 where
  pub how : outcome.how ≡ end
  pub lines : (core : Core S) → IsCoreOf meant w.machine.words w.machine.seats.places.items core → LinesHaveTickets core → outcome.lines ≡ core.lines
  pub ends : (core : Core S) → IsCoreOf meant w.machine.words w.machine.seats.places.items core → AreEnds code core outcome.ends
  pub opened : outcome.opened ≡ w.opened
  pub undone : outcome.undone ≡ w.undone
  pub made : (core : Core S) → IsCoreOf meant w.machine.words w.machine.seats.places.items core → AreTextsOf core outcome.lines outcome.made
