-- Silent turns of a thread in memory.
use Rattle.std.specs.Prelude.{◌≡◌, ℕ, Option, None, Some}
use Rattle.op_core.specs.ThreadCode.{Code}
use Rattle.thread_automaton.specs.declared.Bounds.{Bounds}
use Rattle.thread_automaton.specs.ThreadState.{ThreadState}
use Rattle.thread_moves.specs.declared.thread.JThread.{JThread}
use Rattle.rollback_core.specs.Quiet.{QuietTurns}

-- a thread, if it is there, makes n silent turns, and is then the second one; else none are made
abbrev pub MakesQuiet : {S : Type 0} → Code S → Bounds → ℕ → Option (ThreadState S) → Option (ThreadState S) → Type 0
MakesQuiet code b n None next = (n ≡ 0) × (next ≡ None)
MakesQuiet {S} code b n (Some th) next = (last : ThreadState S) × QuietTurns code b n th last × (next ≡ Some last)

-- so does the thread in memory at a place, whose bounds stay
abbrev pub QuietAt : {C S : Type 0} → Code S → (JThread C → ThreadState S) → ℕ → Option (JThread C) → Option (JThread C) → Type 0
QuietAt code meant n None next = (n ≡ 0) × (next ≡ None)
QuietAt {C} code meant n (Some x) next =
    (y : JThread C) × QuietTurns code x.own.bounds n (meant x) (meant y) × (y.own.bounds ≡ x.own.bounds) × (next ≡ Some y)
