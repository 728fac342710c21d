-- What one call makes that gives a thread many turns.
use Rattle.std.specs.Prelude.{◌≡◌, ℕ, suc, ◌<◌, ◌≤◌, ◌⊎◌, true, false, List, length, MatchOption}
use Rattle.std.specs.List.{list_all}
use Rattle.op_core.specs.ThreadCode.{Code}
use Rattle.step_port.specs.declared.answer.StepAnswer.{StepAnswer}
use Rattle.step_port.specs.declared.step.Step.{Step}
use Rattle.thread_automaton.specs.declared.Bounds.{Bounds}
use Rattle.thread_automaton.specs.ThreadState.{ThreadState}
use Rattle.thread_automaton.specs.NextMove.{next_move}
use Rattle.thread_moves.specs.declared.thread.JThread.{JThread}
use Rattle.rollback_core.specs.declared.turned.Turn.{Turn}
use Rattle.rollback_core.specs.Turn.{Turned, MoveTakesMemory, kind_made}
use Rattle.turn_runs.specs.declared.looks.Looks.{Looks}
use Rattle.turn_runs.specs.declared.stretch.Stretch.{Stretch}
use Rattle.turn_runs.specs.Turns.{TurnMove, Turns}
use Rattle.turn_runs.specs.Looks.{move_passes, passes_by}

-- n turns that pass by lead from the thread th and the port x to the thread last and the port y
pub record PassBy {S P : Type 0} (code : Code S) (b : Bounds) (stepped : P → Step → StepAnswer → P → Type 0) (looks : Looks)
    (th : ThreadState S) (x : P) (n : ℕ) (last : ThreadState S) (y : P) : Type 0 where
  pub moves : List TurnMove
  pub turns : Turns code b stepped th x moves last y
  pub number : n ≡ length moves
  pub pass : list_all (move_passes looks) moves ≡ true

-- All turns of a stretch passed by: they are as many as were wanted at most, or there was no memory for one more.
pub record Passed {S P : Type 0} (code : Code S) (b : Bounds) (stepped : P → Step → StepAnswer → P → Type 0) (looks : Looks) (most : ℕ)
    (th : ThreadState S) (x : P) (behind : ThreadState S) (y : P) (count : ℕ) : Type 0 where
  pub passed : PassBy code b stepped looks th x count behind y
  pub ended : (count ≡ most) ⊎ ((0 < count) × MoveTakesMemory (next_move code b behind))

-- All turns of a stretch passed by but the last one, which says r. The number of its step's kind is `kind`, 0 where it made none.
pub record Stopped {C S P Pass : Type 0} (meant : JThread C → ThreadState S) (code : Code S) (b : Bounds)
    (stepped : P → Step → StepAnswer → P → Type 0) (handed : P → Step → P → Pass → Type 0) (looks : Looks)
    (th : ThreadState S) (x : P) (behind : ThreadState S) (y : P) (kind count : ℕ) (r : Turn C Pass) : Type 0 where
  pub number : ℕ
  pub before : ThreadState S
  pub port : P
  pub passed : PassBy code b stepped looks th x number before port
  pub counted : count ≡ suc number
  pub turned : Turned meant code b before behind (λ step a. stepped port step a y) (λ step pass. handed port step y pass) (y ≡ port) r (next_move code b before)
  pub kind_is : kind ≡ kind_made (next_move code b before)
  pub seen : passes_by looks kind r ≡ false

-- At most so many turns of the thread th lead from the port x to the thread `behind` and the port y: all pass by but the last one, if
-- the caller has to look at it.
pub record Stretched {C S P Pass : Type 0} (meant : JThread C → ThreadState S) (code : Code S) (b : Bounds)
    (stepped : P → Step → StepAnswer → P → Type 0) (handed : P → Step → P → Pass → Type 0) (looks : Looks) (most : ℕ)
    (th : ThreadState S) (x : P) (behind : ThreadState S) (y : P) (kind : ℕ) (stretch : Stretch C Pass) : Type 0 where
  pub bound : stretch.count ≤ most
  pub turned : MatchOption stretch.last (Passed code b stepped looks most th x behind y stretch.count)
      (Stopped meant code b stepped handed looks th x behind y kind stretch.count)
