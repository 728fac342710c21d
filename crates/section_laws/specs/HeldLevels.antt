-- At which levels threads hold monitors along a run, and to which local states they come.
use Rattle.std.specs.Prelude.{◌≡◌, ◌<◌, ◌≤◌, ℕ, Some, List, [], ◌∷◌, length}
use Rattle.op_core.specs.declared.Op.TheVariants.{Exit, Rewake}
use Rattle.op_core.specs.declared.Next.{Next}
use Rattle.op_core.specs.declared.Next.TheVariants.{Want}
use Rattle.op_core.specs.ThreadCode.{Code}
use Rattle.op_core.specs.Orderly.{CanStand, IsOrderly}
use Rattle.step_port.specs.declared.step.Step.TheVariants.{Release}
use Rattle.thread_automaton.specs.declared.Attempt.{Attempt}
use Rattle.thread_automaton.specs.declared.Attempt.TheVariants.{Fixed}
use Rattle.thread_automaton.specs.declared.Bounds.{Bounds}
use Rattle.thread_automaton.specs.declared.Held.{Held}
use Rattle.thread_automaton.specs.ThreadState.{ThreadState}
use Rattle.thread_automaton.specs.Changes.{without}
use Rattle.core_runs.specs.Cores.{Core}
use Rattle.core_runs.specs.Acts.{Act}
use Rattle.section_laws.specs.Runs.{IsRun}
use Rattle.section_laws.specs.OwnWords.{IsInBits}

-- each of them was taken at one of the outermost n levels
abbrev pub AreAtMost : ℕ → List Held → Type 0
AreAtMost n [] = Unit {0}
AreAtMost n (h ∷ held) = (h.level ≤ n) × AreAtMost n held

-- what is held, without the monitor that an exit is about to release: its level may be closed already
abbrev pub kept_by : Attempt → Next → List Held → List Held
kept_by (Fixed (Release q)) (Want (Exit r)) held = without r held
kept_by attempt next held = held

-- The code goes in order from where each thread begins, and the words and numbers of the run are in range.
pub record IsOrderlyRun {S : Type 0} (code : Code S) (b : Bounds) (first : S) (classes : ℕ) (c : ℕ → Core S) (acts : List Act) : Type 0 where
  pub run : IsRun code b c acts
  pub in_bits : IsInBits c acts
  pub orderly : IsOrderly code first classes
  pub begins : (t : ℕ) (th : ThreadState S) → (c 0).threads t ≡ Some th → th.local ≡ first

abbrev pub ThreadsStandInOrder : {S : Type 0} → Code S → Type 0
ThreadsStandInOrder {S} code = (b : Bounds) (first : S) (classes : ℕ) (c : ℕ → Core S) (acts : List Act) → IsOrderlyRun code b first classes c acts
    → (k t : ℕ) (th : ThreadState S) → k ≤ length acts → (c k).threads t ≡ Some th → CanStand code first th.local

abbrev pub HeldLevelsAreOpen : {S : Type 0} → Code S → Type 0
HeldLevelsAreOpen {S} code = (b : Bounds) (first : S) (classes : ℕ) (c : ℕ → Core S) (acts : List Act) → IsOrderlyRun code b first classes c acts
    → (k t : ℕ) (th : ThreadState S) → k ≤ length acts → (c k).threads t ≡ Some th
    → AreAtMost th.levels (kept_by th.attempt (code.next th.local) th.held)

-- a thread that is to take a monitor again after a wait
pub record RewakesInLevels {S : Type 0} (th : ThreadState S) : Type 0 where
  -- has its section open still, with the level of that monitor,
  pub section : 0 < th.section
  pub level : th.level ≤ th.levels
  -- and has seen all levels pinned
  pub pinned : th.levels ≤ th.pinned

abbrev pub RewakesAreInLevels : {S : Type 0} → Code S → Type 0
RewakesAreInLevels {S} code = (b : Bounds) (first : S) (classes : ℕ) (c : ℕ → Core S) (acts : List Act) → IsOrderlyRun code b first classes c acts
    → (k t r : ℕ) (th : ThreadState S) → k ≤ length acts → (c k).threads t ≡ Some th → code.next th.local ≡ Want (Rewake r) → RewakesInLevels th
