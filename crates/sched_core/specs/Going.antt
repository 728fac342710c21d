-- Threads that have left their host threads, and how their run goes on.
use Rattle.std.specs.Prelude.{◌≡◌, ℕ, false, Option, None, Some, List, [], ◌++◌}
use Rattle.std.specs.List.{All}
use Rattle.op_core.specs.declared.How.{How}
use Rattle.op_core.specs.declared.How.TheVariants as how
use Rattle.op_core.specs.ThreadCode.{Code}
use Rattle.schedules.specs.declared.order.TurnEnd.TheVariants.{Spent}
use Rattle.schedules.specs.Run.{Run, Follows, EndsBy}
use Rattle.heap_words.specs.declared.areas.Areas.{Areas}
use Rattle.plain_words.specs.declared.plain.PlainWords.{PlainWords}
use Rattle.plain_words.specs.Table.{words_in}
use Rattle.thread_automaton.specs.declared.Bounds.{Bounds}
use Rattle.thread_automaton.specs.ThreadState.{ThreadState}
use Rattle.core_runs.specs.Cores.{Core}
use Rattle.core_runs.specs.Acts.{Act}
use Rattle.thread_moves.specs.declared.thread.JThread.{JThread}
use Rattle.going_threads.specs.declared.going.Going.{Going}
use Rattle.word_runs.specs.WordTurns.{Progress, word_turns}
use Rattle.word_runs.specs.Laws.{AreActs}
use Rattle.word_machine.specs.Resumed.{AreThreads}
use Rattle.sched_core.specs.declared.word_outcome.WordOutcome.{WordOutcome}
use Rattle.sched_core.specs.Counts.{opened_in, undone_in}
use Rattle.sched_core.specs.Outcome.{TellsPlace, IsOutcomeOf}
use Rattle.sched_core.specs.Readiness.{StaysWell}

-- a run at this place that has no order and draws no number: the lowest thread that can go on gets the next turn
abbrev pub unscheduled : {S : Type 0} → Progress S → Run (Progress S)
unscheduled place = record { state = place; rest = record { order = []; number = None } }

-- If it is said how the run ends at this place, it ends so: at a limit, the next turn of the thread that met it is spent, whether or not
-- that thread gets the next turn.
abbrev pub EndsAsSaid : {S : Type 0} → Code S → Bounds → Progress S → Option How → Type 0
EndsAsSaid code b place None = Unit {0}
EndsAsSaid code b place (Some (how.Limit t limit)) = (word_turns code b).gives place t (Spent limit) place
EndsAsSaid code b place (Some end) = EndsBy (word_turns code b) (unscheduled place) end

-- Acts lead to this place from a core from which on all stays well. The words are those of the place, the threads are all of its
-- threads, and the counts are those of the acts.
pub record IsGoing {C S : Type 0} (code : Code S) (meant : JThread C → ThreadState S) (b : Bounds) (words : PlainWords) (going : Going C) (place : Progress S) : Type 0 where
  pub core : Core S
  pub well : StaysWell code b words.areas core
  pub acts : AreActs code b core place
  pub untold : place.keeps ≡ false
  pub words_are : place.core.words ≡ words_in words
  pub threads : AreThreads meant going.threads.items place.core.threads
  pub bounds : All (λ x. x.own.bounds ≡ b) going.threads.items
  pub opened : going.opened ≡ opened_in place.acts
  pub undone : going.undone ≡ undone_in place.acts
  pub how : EndsAsSaid code b place going.how

-- Where it is said how the run ends at this place, no turn is given, and the outcome tells of the place. Else turns lead on from there,
-- and it tells where they lead.
abbrev pub IsGoneOn : {S : Type 0} → Code S → Bounds → Progress S → Option How → WordOutcome → Type 0
IsGoneOn code b place None outcome = IsOutcomeOf code b (unscheduled place) outcome
IsGoneOn code b place (Some end) outcome = (outcome.how ≡ end) × TellsPlace code place outcome

-- the acts of the second place begin with those of the first one
abbrev pub HasMoreActs : {S : Type 0} → Progress S → Progress S → Type 0
HasMoreActs place last = (more : List Act) × (last.acts ≡ place.acts ++ more)

-- Turns that lead on from a place to which acts lead are acts too, made after those of the place, where from the first core on all stays
-- well. So each law of runs on shared words holds of them.
abbrev pub TurnsGoOnAsActs : {S : Type 0} → Code S → Type 0
TurnsGoOnAsActs {S} code = (b : Bounds) (areas : Areas) (core : Core S) → StaysWell code b areas core → (run last : Run (Progress S)) (threads : List ℕ) → AreActs code b core run.state
    → Follows (word_turns code b) run threads last → AreActs code b core last.state × HasMoreActs run.state last.state
