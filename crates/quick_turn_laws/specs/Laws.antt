-- What is so of usual turns.
use Rattle.std.specs.Prelude.{◌≡◌, ◌≢◌, ℕ, ◌+◌, true, false, List, [], ◌∷◌}
use Rattle.std.specs.List.{list_all}
use Rattle.op_core.specs.declared.Op.TheVariants.{Enter, Rewake, Join}
use Rattle.op_core.specs.declared.Next.{Next}
use Rattle.op_core.specs.declared.Next.TheVariants.{Want}
use Rattle.op_core.specs.ThreadCode.{Code}
use Rattle.step_port.specs.declared.answer.StepAnswer.{StepAnswer}
use Rattle.step_port.specs.declared.step.Step.{Step}
use Rattle.step_port.specs.declared.step.Step.TheVariants.{SwapWord}
use Rattle.step_port.specs.Words.{Words, IsStepOnWords, words_after}
use Rattle.thread_automaton.specs.declared.Bounds.{Bounds}
use Rattle.thread_automaton.specs.ThreadState.{ThreadState}
use Rattle.word_runs.specs.Enabled.{is_enabled}
use Rattle.turn_runs.specs.declared.looks.Looks.{Looks}
use Rattle.turn_runs.specs.Turns.{TurnMove, silent, made, Turns}
use Rattle.turn_runs.specs.Looks.{looks_at, move_passes}
use Rattle.quick_turns.specs.Usual.{AreUsual}

-- the caller looks neither at events nor at the kinds of steps that usual turns make
pub record LetsUsualPass (looks : Looks) : Type 0 where
  pub events : looks.events ≡ false
  pub loads : looks_at looks 1 ≡ false
  pub exchanges : looks_at looks 2 ≡ false
  pub sections : looks_at looks 6 ≡ false
  pub classes : looks_at looks 25 ≡ false

abbrev pub UsualTurnsPass : {S P : Type 0} → Code S → (P → Step → StepAnswer → P → Type 0) → Type 0
UsualTurnsPass {S} {P} code stepped = (b : Bounds) (looks : Looks) (w : Words) (th last : ThreadState S) (x y : P) (moves : List TurnMove)
    → LetsUsualPass looks → Turns code b stepped th x moves last y → AreUsual code b w th moves → list_all (move_passes looks) moves ≡ true

-- the word at this place isn't a monitor that is wanted, or the start word of a thread for whose end is waited
abbrev pub IsNotWaitedFor : Next → ℕ → Type 0
IsNotWaitedFor (Want (Enter r)) at = at ≢ r + 1
IsNotWaitedFor (Want (Rewake r)) at = at ≢ r + 1
IsNotWaitedFor (Want (Join r)) at = at ≢ r + 3
IsNotWaitedFor next at = Unit {0}

-- no turn that makes these moves overwrites such a word
abbrev pub OverwriteNone : Next → List TurnMove → Type 0
OverwriteNone next [] = Unit {0}
OverwriteNone next (made other (SwapWord at old new) answer tells ∷ moves) = IsNotWaitedFor next at × OverwriteNone next moves
OverwriteNone next (move ∷ moves) = OverwriteNone next moves

-- the thread isn't enabled on the words w, nor on those after each of these moves
abbrev pub IsNeverEnabled : {S : Type 0} → Code S → Words → ThreadState S → List TurnMove → Type 0
IsNeverEnabled code w th [] = is_enabled code w th ≡ false
IsNeverEnabled code w th (silent ∷ moves) = (is_enabled code w th ≡ false) × IsNeverEnabled code w th moves
IsNeverEnabled code w th (made next step answer tells ∷ moves) = (is_enabled code w th ≡ false) × IsNeverEnabled code (words_after step w) th moves

abbrev pub WaitingThreadsStay : {S : Type 0} → Code S → Type 0
WaitingThreadsStay {S} code = (b : Bounds) (th other last : ThreadState S) (w v : Words) (moves : List TurnMove)
    → Turns code b IsStepOnWords th w moves last v → AreUsual code b w th moves → is_enabled code w other ≡ false → OverwriteNone (code.next other.local) moves
    → IsNeverEnabled code w other moves
