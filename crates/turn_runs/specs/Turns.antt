-- Turns of one thread, one after another, through a port.
use Rattle.std.specs.Prelude.{◌≡◌, ℕ, List, [], ◌∷◌, Some}
use Rattle.op_core.specs.declared.Next.{Next}
use Rattle.op_core.specs.ThreadCode.{Code, quiet_step}
use Rattle.step_port.specs.declared.answer.StepAnswer.{StepAnswer}
use Rattle.step_port.specs.declared.step.Step.{Step}
use Rattle.step_port.specs.Steps.{effect_of, kind_of}
use Rattle.step_port.specs.Words.{CanAnswer}
use Rattle.thread_automaton.specs.declared.Bounds.{Bounds}
use Rattle.thread_automaton.specs.declared.Move.TheVariants.{Quiet, Make}
use Rattle.thread_automaton.specs.ThreadState.{ThreadState}
use Rattle.thread_automaton.specs.NextMove.{next_move}
use Rattle.thread_automaton.specs.Told.{Told, told, after_answer, after_quiet}
use Rattle.thread_moves.specs.Thread.{CanBeAsked}
use Rattle.thread_moves.specs.Change.{NamesThread}

-- what a turn made
pub data TurnMove : Type 0 where
  -- a silent step
  silent : TurnMove
  -- what the code wanted, the step on the shared words, its answer, and what the turn reports
  made : Next → Step → StepAnswer → Told → TurnMove

-- the number of the kind of the step of a turn that made this, 0 where it made none
abbrev pub move_kind : TurnMove → ℕ
move_kind silent = 0
move_kind (made next step answer tells) = kind_of step

-- that of the last of these moves, or k where there are none
abbrev pub last_kind : ℕ → List TurnMove → ℕ
last_kind k [] = k
last_kind k (move ∷ moves) = last_kind (move_kind move) moves

-- Turns that make these moves lead from the thread th and the port x to the thread last and the port y. Each move is the one that
-- comes next.
abbrev pub Turns : {S P : Type 0} → Code S → Bounds → (P → Step → StepAnswer → P → Type 0) → ThreadState S → P → List TurnMove → ThreadState S → P → Type 0
Turns code b stepped th x [] last y = (last ≡ th) × (y ≡ x)
Turns {S} {P} code b stepped th x (silent ∷ moves) last y =
    (l : S) × (next_move code b th ≡ Quiet) × (quiet_step code th.local ≡ Some l) × Turns code b stepped (after_quiet th l) x moves last y
Turns {S} {P} code b stepped th x (made next step answer tells ∷ moves) last y =
    (z : P) × (next ≡ code.next th.local) × (next_move code b th ≡ Make step) × stepped x step answer z × CanAnswer (effect_of step) answer
    × (tells ≡ told code b th step answer) × Turns code b stepped (after_answer code b th step answer) z moves last y

-- what a turn asks of a thread and a port
pub record CanTurn {S P : Type 0} (code : Code S) (b : Bounds) (allows : P → Step → Type 0) (stepped : P → Step → StepAnswer → P → Type 0)
    (th : ThreadState S) (x : P) : Type 0 where
  pub range : CanBeAsked code th.local (code.next th.local)
  pub allowed : (step : Step) → next_move code b th ≡ Make step → allows x step
  pub names : (step : Step) (a : StepAnswer) (y : P) → next_move code b th ≡ Make step → stepped x step a y → NamesThread step a

-- so it is wherever turns of this thread alone lead
abbrev pub StaysReady : {S P : Type 0} → Code S → Bounds → (P → Step → Type 0) → (P → Step → StepAnswer → P → Type 0) → ThreadState S → P → Type 0
StaysReady {S} {P} code b allows stepped th x = (moves : List TurnMove) (last : ThreadState S) (y : P)
    → Turns code b stepped th x moves last y → CanTurn code b allows stepped last y
