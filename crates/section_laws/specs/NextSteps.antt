-- How far a thread is after its part of a run, and the step that it makes next.
use Rattle.std.specs.Prelude.{◌≡◌, ℕ, zero, suc, false, Option, None, Some, List, [], ◌∷◌, if◌then◌else◌}
use Rattle.op_core.specs.ThreadCode.{Code, quiet_step}
use Rattle.step_port.specs.declared.answer.StepAnswer.{StepAnswer}
use Rattle.step_port.specs.declared.step.Step.{Step}
use Rattle.thread_automaton.specs.declared.Bounds.{Bounds}
use Rattle.thread_automaton.specs.declared.Move.{Move}
use Rattle.thread_automaton.specs.declared.Move.TheVariants.{Quiet, Make}
use Rattle.thread_automaton.specs.ThreadState.{ThreadState}
use Rattle.thread_automaton.specs.NextMove.{next_move}
use Rattle.thread_automaton.specs.Told.{after_answer, after_quiet}
use Rattle.core_runs.specs.declared.StepMade.{StepMade}
use Rattle.core_runs.specs.OwnParts.{is_beside, IsOwnPart}

-- the step, with this answer
abbrev pub step_made : Step → StepAnswer → StepMade
step_made step answer = record { step = step; answer = answer }

-- the thread after the move, if that is silent and leads its code to a local state
abbrev pub after_move : {S : Type 0} → ThreadState S → Move → Option S → Option (ThreadState S)
after_move th Quiet (Some l) = Some (after_quiet th l)
after_move th move l = None

-- the thread after its next move, if that is silent
abbrev pub next_quiet : {S : Type 0} → Code S → Bounds → ThreadState S → Option (ThreadState S)
next_quiet code b th = after_move th (next_move code b th) (quiet_step code th.local)

-- what comes of the next thread, or this one where there is none
abbrev pub or_stay : {S : Type 0} → (ThreadState S → ThreadState S) → ThreadState S → Option (ThreadState S) → ThreadState S
or_stay go th None = th
or_stay go th (Some next) = go next

-- the thread after the silent moves that come next, but n of them at most
abbrev pub after_quiets : {S : Type 0} → Code S → Bounds → ℕ → ThreadState S → ThreadState S
after_quiets code b zero th = th
after_quiets code b (suc n) th = or_stay (λ next. after_quiets code b n next) th (next_quiet code b th)

-- The thread after all silent moves that come next. They are turns that count, so there are no more than the limit of turns.
abbrev pub when_quiet : {S : Type 0} → Code S → Bounds → ThreadState S → ThreadState S
when_quiet code b th = after_quiets code b b.limits.turns th

-- a thread that began as x, right after the last of these steps, the newest first
abbrev pub state_after_part : {S : Type 0} → Code S → Bounds → ThreadState S → List StepMade → ThreadState S
state_after_part code b x [] = x
state_after_part code b x (m ∷ part) =
    if is_beside m.step then state_after_part code b x part
    else after_answer code b (when_quiet code b (state_after_part code b x part)) m.step m.answer

-- the step of a move
abbrev pub step_in : Move → Option Step
step_in (Make step) = Some step
step_in move = None

-- the step that a thread makes next which began as x and has made these
abbrev pub next_step : {S : Type 0} → Code S → Bounds → ThreadState S → List StepMade → Option Step
next_step code b x part = step_in (next_move code b (when_quiet code b (state_after_part code b x part)))

-- a part that goes on with a step of the thread's own goes on with this one
abbrev pub PartsDecide : {S : Type 0} → Code S → Type 0
PartsDecide {S} code = (b : Bounds) (x : ThreadState S) (part : List StepMade) (step : Step) (answer : StepAnswer)
    → is_beside step ≡ false → IsOwnPart code b x (step_made step answer ∷ part) → next_step code b x part ≡ Some step
