-- Threads that go on where they are.
use Rattle.std.specs.Prelude.{◌≡◌, ℕ, Option, Some, List, [], ◌∷◌, Contains}
use Rattle.std.specs.List.{All}
use Rattle.op_core.specs.OrdinaryState.{set_at}
use Rattle.thread_automaton.specs.ThreadState.{ThreadState}
use Rattle.thread_moves.specs.declared.thread.JThread.{JThread}

-- the threads by their numbers, once these are seated too, one after another
abbrev pub seats_with : {C : Type 0} → (ℕ → Option (JThread C)) → List (JThread C) → ℕ → Option (JThread C)
seats_with seats [] = seats
seats_with seats (x ∷ xs) = seats_with (set_at seats x.own.number (Some x)) xs

-- Each of these threads in memory is the thread of its number, and each thread is one of them. `meant` says which thread of the
-- definitions one in memory is.
pub record AreThreads {C S : Type 0} (meant : JThread C → ThreadState S) (all : List (JThread C)) (threads : ℕ → Option (ThreadState S)) : Type 0 where
  pub each : All (λ x. threads x.own.number ≡ Some (meant x)) all
  pub every : (t : ℕ) (th : ThreadState S) → threads t ≡ Some th → (x : JThread C) × Contains all x × (x.own.number ≡ t)
