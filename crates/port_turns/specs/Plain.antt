-- Turns of one thread that are plain: each is silent, or makes a step on a word of an object after which the thread goes on.
use Rattle.std.specs.Prelude.{◌≡◌, ℕ, Bool, true, false, ◌&&◌, List, [], ◌∷◌, length}
use Rattle.op_core.specs.ThreadCode.{Code}
use Rattle.step_port.specs.declared.answer.StepAnswer.{StepAnswer}
use Rattle.step_port.specs.declared.step.Step.{Step}
use Rattle.step_port.specs.declared.step.Step.TheVariants.{LoadWord, SwapWord}
use Rattle.thread_automaton.specs.declared.Bounds.{Bounds}
use Rattle.thread_automaton.specs.ThreadState.{ThreadState}
use Rattle.thread_automaton.specs.Told.{Told, born, blocked}
use Rattle.turn_runs.specs.Turns.{TurnMove, silent, made, last_kind, Turns, CanTurn}

-- a load of a word of an object, or the exchange of one
abbrev pub is_word_step : Step → Bool
is_word_step (LoadWord at) = true
is_word_step (SwapWord at old new) = true
is_word_step step = false

-- after a turn that reports this the thread goes on: it has handed no thread out, and doesn't have to wait
abbrev pub leaves_free : Told → Bool
leaves_free born = false
leaves_free (blocked why) = false
leaves_free tells = true

abbrev pub is_plain : TurnMove → Bool
is_plain silent = true
is_plain (made next step answer tells) = is_word_step step && leaves_free tells

abbrev pub ArePlain : List TurnMove → Type 0
ArePlain [] = Unit {0}
ArePlain (move ∷ moves) = (is_plain move ≡ true) × ArePlain moves

-- A number n of plain turns leads from the thread th and the port x to the thread last and the port y. The kind of the last step
-- before the turns is k, and l after them.
pub record PlainTurns {S P : Type 0} (code : Code S) (b : Bounds) (stepped : P → Step → StepAnswer → P → Type 0)
    (th : ThreadState S) (x : P) (k n : ℕ) (last : ThreadState S) (y : P) (l : ℕ) : Type 0 where
  pub moves : List TurnMove
  pub turns : Turns code b stepped th x moves last y
  pub count : n ≡ length moves
  pub plain : ArePlain moves
  pub kind : l ≡ last_kind k moves

-- What a turn asks of a thread and a port is so wherever turns of this thread alone lead while it hasn't ended.
abbrev pub CanGoOn : {S P : Type 0} → Code S → Bounds → (P → Step → Type 0) → (P → Step → StepAnswer → P → Type 0) → ThreadState S → P → Type 0
CanGoOn {S} {P} code b allows stepped th x = (moves : List TurnMove) (last : ThreadState S) (y : P)
    → Turns code b stepped th x moves last y → last.over ≡ false → CanTurn code b allows stepped last y
