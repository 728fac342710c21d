-- The ends of threads that a run leaves, as the core tells them with which it ends.
use Rattle.std.specs.Prelude.{◌≡◌, ◌↔◌, ◌≤◌, ℕ, Bool, true, Option, Some, List, length}
use Rattle.op_core.specs.declared.Op.TheVariants.{End}
use Rattle.op_core.specs.declared.Next.TheVariants.{Want}
use Rattle.op_core.specs.ThreadCode.{Code}
use Rattle.op_core.specs.OrdinaryState.{ended}
use Rattle.thread_automaton.specs.declared.Bounds.{Bounds}
use Rattle.thread_automaton.specs.ThreadState.{ThreadState}
use Rattle.core_runs.specs.Cores.{Core}
use Rattle.core_runs.specs.Acts.{Act}
use Rattle.section_laws.specs.Layout.{IsLaidRun}
use Rattle.first_law.specs.Free.{IsFreeRun}
use Rattle.core_law.specs.Erasure.{Erasure}
use Rattle.word_runs.specs.WordTurns.{EndedBy}

-- a thread that is over at a place of a run wanted to end
abbrev pub OverThreadsWantTheirEnd : {S : Type 0} → Code S → Type 0
OverThreadsWantTheirEnd {S} code = (b : Bounds) (is_thread : ℕ → Bool) (c : ℕ → Core S) (acts : List Act) → IsLaidRun code b is_thread c acts
    → (k t : ℕ) (th : ThreadState S) → k ≤ length acts → (c k).threads t ≡ Some th → th.over ≡ true → (x : Option ℕ) × (code.next th.local ≡ Want (End x))

-- A thread has ended where a run ends if and only if it has ended after the execution that is left of the run, and then alike.
abbrev pub EndsAreThoseLeft : {S : Type 0} → Code S → Type 0
EndsAreThoseLeft {S} code = (b : Bounds) (is_thread : ℕ → Bool) (first : S) (classes : ℕ) (c : ℕ → Core S) (acts : List Act) → IsFreeRun code b is_thread first classes c acts
    → (left : Erasure code b is_thread c acts) (t : ℕ) (x : Option ℕ) → EndedBy code x ((c (length acts)).threads t) ↔ (left.last.threads t ≡ ended x)
