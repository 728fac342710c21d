-- A turn in memory with what it shows of its thread.
use Rattle.std.specs.Prelude.{◌≡◌, ℕ, Option, None, Some, List}
use Rattle.op_core.specs.declared.Event.{Event}
use Rattle.op_core.specs.declared.Next.{Next}
use Rattle.op_core.specs.declared.Next.TheVariants.{Want}
use Rattle.op_core.specs.ThreadCode.{Code}
use Rattle.step_port.specs.declared.answer.StepAnswer.{StepAnswer}
use Rattle.step_port.specs.declared.step.Step.{Step}
use Rattle.step_port.specs.Steps.{kind_of}
use Rattle.step_port.specs.Words.{Words, answer_of}
use Rattle.thread_automaton.specs.declared.Bounds.{Bounds}
use Rattle.thread_automaton.specs.declared.Move.{Move}
use Rattle.thread_automaton.specs.declared.Move.TheVariants.{Make}
use Rattle.thread_automaton.specs.ThreadState.{ThreadState}
use Rattle.thread_automaton.specs.NextMove.{next_move}
use Rattle.thread_automaton.specs.Told.{Told, advanced, told, after_answer}
use Rattle.plain_words.specs.declared.plain.PlainWords.{PlainWords}
use Rattle.thread_moves.specs.declared.thread.JThread.{JThread}
use Rattle.rollback_core.specs.declared.turned.Turn.{Turn}
use Rattle.rollback_core.specs.declared.turned.Turn.TheVariants.{Advanced}
use Rattle.core_runs.specs.Cores.{Core}
use Rattle.word_runs.specs.WordTurns.{Progress, word_turns}
use Rattle.word_machine.specs.Machine.{IsCoreOf}
use Rattle.word_machine.specs.declared.told_turn.ToldTurn.{ToldTurn}

-- the event that a turn of thread t says, if it says one
abbrev pub event_said : {C Pass : Type 0} → ℕ → Turn C Pass → Option Event
event_said t (Advanced (Some e)) = Some (record e { thread = t })
event_said t turn = None

-- an event comes where others see a reply to what was wanted; the thread made this number of silent moves before
abbrev pub event_seen : ℕ → ℕ → Told → Next → Option Event
event_seen t silents (advanced (Some reply)) (Want op) = Some (record { thread = t; silent = silents; op = op; reply = reply })
event_seen t silents told next = None

-- Thread t, which was th, made the step, and this was answered.
pub record ShowsStep {S : Type 0} (code : Code S) (b : Bounds) (t : ℕ) (th : ThreadState S) (turn : ToldTurn) (step : Step) (answer : StepAnswer) : Type 0 where
  pub kind : turn.kind ≡ kind_of step
  pub event : turn.event ≡ event_seen t th.silents (told code b th step answer) (code.next th.local)
  pub before : turn.levels_before ≡ th.levels
  pub after : turn.levels_after ≡ (after_answer code b th step answer).levels

-- it made none
pub record ShowsNoStep (turn : ToldTurn) : Type 0 where
  pub kind : turn.kind ≡ 0
  pub event : turn.event ≡ None
  pub levels : turn.levels_after ≡ turn.levels_before

-- it made this move on these words
abbrev pub ShowsMove : {S : Type 0} → Code S → Bounds → Words → ℕ → ThreadState S → ToldTurn → Move → Type 0
ShowsMove code b w t th turn (Make step) = ShowsStep code b t th turn step (answer_of w step)
ShowsMove code b w t th turn move = ShowsNoStep turn

-- The thread of this number is there, and the turn shows the move of it that came next.
pub record ShowsTurn {S : Type 0} (code : Code S) (b : Bounds) (core : Core S) (t : ℕ) (turn : ToldTurn) : Type 0 where
  pub thread : ThreadState S
  pub there : core.threads t ≡ Some thread
  pub shows : ShowsMove code b core.words t thread turn (next_move code b thread)

-- From each place of a run whose core is in memory, a turn of thread t comes to this and shows this of it, and leads to a place
-- whose core is in memory then.
abbrev pub TellsTurn : {C S : Type 0} → Code S → (JThread C → ThreadState S) → Bounds → PlainWords → List (Option (JThread C)) → ℕ → ToldTurn → PlainWords → List (Option (JThread C)) → Type 0
TellsTurn {C} {S} code meant b words places t turn new placed = (r : Progress S) → IsCoreOf meant words places r.core
    → (next : Progress S) × (word_turns code b).gives r t turn.end next × IsCoreOf meant new placed next.core × ShowsTurn code b r.core t turn
