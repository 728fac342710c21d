-- Turns of one thread on the words that threads share, as acts and as turns that a schedule gives.
use Rattle.std.specs.Prelude.{◌≡◌, ◌≢◌, ℕ, ◌+◌, Some, List, [], ◌∷◌, ◌++◌, length, map}
use Rattle.op_core.specs.ThreadCode.{Code}
use Rattle.schedules.specs.declared.order.TurnEnd.{TurnEnd}
use Rattle.schedules.specs.declared.order.TurnEnd.TheVariants as turn_end
use Rattle.schedules.specs.Run.{TurnSystem}
use Rattle.step_port.specs.declared.step.Step.TheVariants.{Split}
use Rattle.step_port.specs.Words.{Words}
use Rattle.thread_automaton.specs.declared.Bounds.{Bounds}
use Rattle.thread_automaton.specs.ThreadState.{ThreadState}
use Rattle.core_runs.specs.Cores.{Core}
use Rattle.core_runs.specs.Acts.{Act, quiet, did, ActFrom}
use Rattle.word_runs.specs.WordTurns.{Progress, end_of, word_turns}
use Rattle.turn_runs.specs.Turns.{TurnMove, silent, made}

-- the acts of thread t that make these moves
abbrev pub acts_of : ℕ → List TurnMove → List Act
acts_of t [] = []
acts_of t (silent ∷ moves) = quiet t ∷ acts_of t moves
acts_of t (made next step answer tells ∷ moves) = did t step answer ∷ acts_of t moves

-- what a turn that makes this move comes to for a schedule
abbrev pub move_end : TurnMove → TurnEnd
move_end silent = turn_end.Other
move_end (made next step answer tells) = end_of step tells

-- turns of thread t, one after another, come to these, and lead from one state to the other
abbrev pub GivesEach : {R : Type 0} → TurnSystem R → R → ℕ → List TurnEnd → R → Type 0
GivesEach system r t [] new = new ≡ r
GivesEach {R} system r t (end ∷ others) new = (next : R) × system.gives r t end next × GivesEach system next t others new

-- the move hands out no thread of this number
abbrev pub IsApart : ℕ → TurnMove → Type 0
IsApart u (made next (Split n r p) answer tells) = u ≢ n
IsApart u move = Unit {0}

abbrev pub AreApart : ℕ → List TurnMove → Type 0
AreApart u [] = Unit {0}
AreApart u (move ∷ moves) = IsApart u move × AreApart u moves

-- Turns of thread t that make these moves lead from the state r to where the thread is `last` and the words are v.
pub record LeadsTo {S : Type 0} (code : Code S) (b : Bounds) (r : Progress S) (t : ℕ) (moves : List TurnMove) (last : ThreadState S) (v : Words) : Type 0 where
  pub new : Progress S
  pub given : GivesEach (word_turns code b) r t (map move_end moves) new
  pub words : new.core.words ≡ v
  pub thread : new.core.threads t ≡ Some last
  -- each other thread is as before, unless it was handed out
  pub others : (u : ℕ) → u ≢ t → AreApart u moves → new.core.threads u ≡ r.core.threads u
  pub keeps : new.keeps ≡ r.keeps
  pub acts : new.acts ≡ r.acts ++ acts_of t moves
  -- the core before each act, and after the last one
  pub cores : ℕ → Core S
  pub begins : cores 0 ≡ r.core
  pub ends : cores (length moves) ≡ new.core
  -- the acts lead on in each run that has these cores from its present number of acts on
  pub leads : (c : ℕ → Core S) → ((n : ℕ) → c (length r.acts + n) ≡ cores n) → ActFrom code b c (length r.acts) (acts_of t moves)
