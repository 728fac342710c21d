-- What a turn of a thread makes and says.
use Rattle.std.specs.Prelude.{◌≡◌, ℕ, ◌⊎◌, Option, None, Some}
use Rattle.std.specs.Global.{Box}
use Rattle.op_core.specs.declared.Limit.{Limit}
use Rattle.op_core.specs.declared.Op.{Op}
use Rattle.op_core.specs.declared.Op.TheVariants.{End}
use Rattle.op_core.specs.declared.Reply.{Reply}
use Rattle.op_core.specs.declared.Event.{Event}
use Rattle.op_core.specs.declared.Next.{Next}
use Rattle.op_core.specs.declared.Next.TheVariants.{Want}
use Rattle.op_core.specs.ThreadCode.{Code, quiet_step}
use Rattle.step_port.specs.declared.answer.StepAnswer.{StepAnswer}
use Rattle.step_port.specs.declared.step.Step.{Step}
use Rattle.step_port.specs.declared.step.Step.TheVariants.{Split}
use Rattle.step_port.specs.Steps.{effect_of, kind_of}
use Rattle.step_port.specs.Words.{CanAnswer}
use Rattle.thread_automaton.specs.declared.Bounds.{Bounds}
use Rattle.thread_automaton.specs.declared.Move.{Move}
use Rattle.thread_automaton.specs.declared.Move.TheVariants.{Over, Quiet, Stop, Make}
use Rattle.thread_automaton.specs.ThreadState.{ThreadState, first_state}
use Rattle.thread_automaton.specs.Told.{Told, probed, advanced, born, lost, blocked, told, after_answer, after_quiet}
use Rattle.thread_moves.specs.declared.thread.JThread.{JThread}
use Rattle.rollback_core.specs.declared.turned.Turn.{Turn}
use Rattle.thread_moves.specs.Told.{TakesMemory}

-- the class of the exception by which a thread ended that had wanted this, if it did so
abbrev pub end_wanted : Next → Option ℕ
end_wanted (Want (End x)) = x
end_wanted next = None

-- the event of a thread of this number: its silent moves since its last event, what it wanted, and what was answered
abbrev pub event_of : ℕ → ℕ → Op → Reply → Event
event_of number silents op reply = record { thread = number; silent = silents; op = op; reply = reply }

-- the thread that is handed out is in its first state
abbrev pub IsChild : {S : Type 0} → Code S → ThreadState S → Step → ThreadState S → Type 0
IsChild code th (Split n r p) child = child ≡ first_state n p (code.child th.local r)
IsChild code th step child = ⊥

-- A started thread is handed out, which has the same bounds, with what the port hands out.
pub record HandsOut {C S Pass : Type 0} (meant : JThread C → ThreadState S) (code : Code S) (b : Bounds) (th : ThreadState S) (step : Step)
    (handed : Pass → Type 0) (r : Turn C Pass) : Type 0 where
  pub child : Box (JThread C)
  pub pass : Pass
  pub says : r ≡ Turn.Born child pass
  pub first : IsChild code th step (meant child.value)
  pub bounds : child.value.own.bounds ≡ b
  pub passed : handed pass

-- What a turn of a thread of this number says when it reports this, except where a thread is handed out.
abbrev pub SaysPlainly : {C Pass : Type 0} → ℕ → ℕ → Next → Turn C Pass → Told → Type 0
SaysPlainly number silents next r probed = r ≡ Turn.Probed
SaysPlainly number silents (Want op) r (advanced (Some reply)) = r ≡ Turn.Advanced (Some (event_of number silents op reply))
SaysPlainly number silents next r (advanced reply) = r ≡ Turn.Advanced None
SaysPlainly number silents next r (lost v) = r ≡ Turn.Lost v
SaysPlainly number silents next r (blocked why) = r ≡ Turn.Blocked why
SaysPlainly number silents next r born = ⊥

-- what a turn of the thread says when it made the step and reports this
abbrev pub Says : {C S Pass : Type 0} → (JThread C → ThreadState S) → Code S → Bounds → ThreadState S → Step → (Pass → Type 0) → Turn C Pass → Told → Type 0
Says meant code b th step handed r born = HandsOut meant code b th step handed r
Says meant code b th step handed r tells = SaysPlainly th.number th.silents (code.next th.local) r tells

-- The thread th made the step, got this answer, and is then `behind`. `stepped` says that the port made the step with
-- an answer, `handed` what it handed out with it.
pub record MadeStep {C S Pass : Type 0} (meant : JThread C → ThreadState S) (code : Code S) (b : Bounds) (th behind : ThreadState S) (step : Step)
    (stepped : StepAnswer → Type 0) (handed : Pass → Type 0) (r : Turn C Pass) : Type 0 where
  pub answer : StepAnswer
  pub made : stepped answer
  pub kind : CanAnswer (effect_of step) answer
  pub goes : behind ≡ after_answer code b th step answer
  pub says : Says meant code b th step handed r (told code b th step answer)

-- its silent step was made, and led to this local state
pub record MadeQuiet {C S Pass : Type 0} (code : Code S) (th behind : ThreadState S) (r : Turn C Pass) : Type 0 where
  pub local : S
  pub quiet : quiet_step code th.local ≡ Some local
  pub goes : behind ≡ after_quiet th local
  pub says : r ≡ Turn.Silent

-- no step was made, and the thread stays
pub record Stays {C S Pass : Type 0} (th behind : ThreadState S) (r said : Turn C Pass) : Type 0 where
  pub thread : behind ≡ th
  pub says : r ≡ said

-- a silent step that would make a 1,025th frame isn't made
abbrev pub TurnedQuiet : {C S Pass : Type 0} → Code S → ThreadState S → ThreadState S → Turn C Pass → Type 0
TurnedQuiet code th behind r = MadeQuiet code th behind r
    ⊎ ((quiet_step code th.local ≡ None) × Stays th behind r (Turn.Spent Limit.Frames))

-- The turn made this move of the thread th, which is then `behind`, and says r. `still` says that the port made no
-- step.
abbrev pub Turned : {C S Pass : Type 0} → (JThread C → ThreadState S) → Code S → Bounds → ThreadState S → ThreadState S
    → (Step → StepAnswer → Type 0) → (Step → Pass → Type 0) → Type 0 → Turn C Pass → Move → Type 0
Turned meant code b th behind stepped handed still r Over = still × Stays th behind r (Turn.Ended (end_wanted (code.next th.local)))
Turned meant code b th behind stepped handed still r (Stop limit) = still × Stays th behind r (Turn.Spent limit)
Turned meant code b th behind stepped handed still r Quiet = still × TurnedQuiet code th behind r
Turned meant code b th behind stepped handed still r (Make step) = MadeStep meant code b th behind step (stepped step) (handed step) r

-- memory is taken for a silent step, and for some steps
abbrev pub MoveTakesMemory : Move → Type 0
MoveTakesMemory Quiet = Unit {0}
MoveTakesMemory (Make step) = TakesMemory step
MoveTakesMemory move = ⊥

-- the number of the kind of the step that was made, 0 where none was
abbrev pub kind_made : Move → ℕ
kind_made (Make step) = kind_of step
kind_made move = 0
