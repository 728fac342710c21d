-- What is so of every thread and every step that it makes.
use Rattle.std.specs.Prelude.{◌≡◌, ℕ, false, Option, None, Some, IfSome}
use Rattle.op_core.specs.declared.Reply.{Reply}
use Rattle.op_core.specs.Replies.{FitsNext}
use Rattle.op_core.specs.ThreadCode.{Code}
use Rattle.step_port.specs.declared.answer.StepAnswer.{StepAnswer}
use Rattle.step_port.specs.declared.step.Step.{Step}
use Rattle.step_port.specs.declared.step.Step.TheVariants.{Ticket, SetWait, DrawThread, StartThread, Split, ClaimClass, SettleClass, EndThread}
use Rattle.step_port.specs.Steps.{effect_of}
use Rattle.step_port.specs.Words.{Words, answer_of}
pub use Rattle.step_port.specs.Words.{CanAnswer}
use Rattle.thread_automaton.specs.declared.Bounds.{Bounds}
use Rattle.thread_automaton.specs.declared.Move.TheVariants.{Make}
use Rattle.thread_automaton.specs.ThreadState.{ThreadState, first_state, is_open}
use Rattle.thread_automaton.specs.NextMove.{next_move}
use Rattle.thread_automaton.specs.Changes.{Change, replies, writes, takes, deepens, drops, closes, waits, prints}
use Rattle.thread_automaton.specs.Answers.{change_of}
use Rattle.thread_automaton.specs.Told.{after_answer, after_quiet}
use Rattle.automaton_rows.specs.Fits.{AttemptFits, IsFit}
use Rattle.automaton_rows.specs.Rows.{Row}
use Rattle.automaton_rows.specs.Causes.{HasCause}

abbrev pub WordsAnswer : Type 0
WordsAnswer = (w : Words) (step : Step) → CanAnswer (effect_of step) (answer_of w step)

-- A thread whose attempt fits makes its next step, and is answered what the step can be: then this is a row.
abbrev pub AnswersHaveRows : {S : Type 0} → Code S → Type 0
AnswersHaveRows {S} code = (b : Bounds) (th : ThreadState S) (step : Step) (answer : StepAnswer)
    → AttemptFits th (code.next th.local) th.attempt → next_move code b th ≡ Make step → CanAnswer (effect_of step) answer
    → Row code b th (code.next th.local) step answer (change_of code b th (code.next th.local) step answer)

-- A thread is fit as it begins, and stays so with each step and answer, and with each silent step.
abbrev pub FirstStatesAreFit : {S : Type 0} → Code S → Type 0
FirstStatesAreFit {S} code = (number priority : ℕ) (l : S) → IsFit code (first_state number priority l)

abbrev pub AnswersKeepFit : {S : Type 0} → Code S → Type 0
AnswersKeepFit {S} code = (b : Bounds) (th : ThreadState S) (step : Step) (answer : StepAnswer)
    → IsFit code th → next_move code b th ≡ Make step → CanAnswer (effect_of step) answer → IsFit code (after_answer code b th step answer)

abbrev pub SilentStepsKeepFit : {S : Type 0} → Code S → Type 0
SilentStepsKeepFit {S} code = (th : ThreadState S) (l : S) → IsFit code th → IsFit code (after_quiet th l)

-- a step that others can see, and that can't be taken back
abbrev pub TellsOthers : Step → Type 0
TellsOthers Ticket = Unit {0}
TellsOthers (SetWait n w) = Unit {0}
TellsOthers (Step.Notify n w) = Unit {0}
TellsOthers DrawThread = Unit {0}
TellsOthers (StartThread r n) = Unit {0}
TellsOthers (Split n r p) = Unit {0}
TellsOthers (ClaimClass c n) = Unit {0}
TellsOthers (SettleClass c w) = Unit {0}
TellsOthers (EndThread n) = Unit {0}
TellsOthers step = ⊥

-- none is made while a section is open that wasn't seen pinned
abbrev pub PinsComeFirst : {S : Type 0} → Code S → Type 0
PinsComeFirst {S} code = (b : Bounds) (th : ThreadState S) (step : Step)
    → AttemptFits th (code.next th.local) th.attempt → next_move code b th ≡ Make step → TellsOthers step → is_open th ≡ false

-- a step on sections is made for a cause
abbrev pub StepsHaveCauses : {S : Type 0} → Code S → Type 0
StepsHaveCauses {S} code = (b : Bounds) (th : ThreadState S) (step : Step)
    → AttemptFits th (code.next th.local) th.attempt → next_move code b th ≡ Make step → HasCause code th (code.next th.local) step

-- the reply that a thread's code is given with a change, if it is given one
abbrev pub reply_of : Change → Option Reply
reply_of (replies reply) = Some reply
reply_of (writes log) = Some Reply.Done
reply_of (takes h) = Some Reply.Done
reply_of (deepens r depth) = Some Reply.Done
reply_of (drops held) = Some Reply.Done
reply_of closes = Some Reply.Done
reply_of (waits r) = Some Reply.Done
reply_of (prints ticket line) = Some Reply.Done
reply_of change = None

-- it fits the operation that the code wants
abbrev pub RepliesFit : {S : Type 0} → Code S → Type 0
RepliesFit {S} code = (b : Bounds) (th : ThreadState S) (step : Step) (answer : StepAnswer)
    → AttemptFits th (code.next th.local) th.attempt → next_move code b th ≡ Make step → CanAnswer (effect_of step) answer
    → IfSome (reply_of (change_of code b th (code.next th.local) step answer)) (FitsNext (code.next th.local))
