-- What is revoked of a run, and what is left out with it.
use Rattle.std.specs.Prelude.{◌≡◌, ℕ, suc, ◌-◌, ◌⊎◌, Bool, true, Some, List, Contains, length, take, slice_get}
use Rattle.step_port.specs.declared.answer.StepAnswer.TheVariants.{Done}
use Rattle.step_port.specs.declared.step.Step.TheVariants.{Revoke, BreakLevel}
use Rattle.thread_automaton.specs.ThreadState.{ThreadState}
use Rattle.core_runs.specs.Cores.{Core}
use Rattle.core_runs.specs.Acts.{Act, did, beside, mover}

-- act number k revokes section s to level n, by a thread or to break a cycle
abbrev pub RevokesAt : List Act → ℕ → ℕ → ℕ → Type 0
RevokesAt acts k s n = (t old : ℕ)
    × ((slice_get acts k ≡ Some (did t (Revoke s old n) Done)) ⊎ (slice_get acts k ≡ Some (beside t (BreakLevel s old n) Done)))

-- the levels from level n on, of those that are open
abbrev pub levels_from : ℕ → List ℕ → List ℕ
levels_from n levels = take (suc (length levels) - n) levels

-- The act of this number opened a level that is revoked: it was open, at the level to which its section was revoked or
-- further inside.
pub record IsDoomed {S : Type 0} (c : ℕ → Core S) (acts : List Act) (p : ℕ) : Type 0 where
  pub place : ℕ
  pub section : ℕ
  pub level : ℕ
  pub revokes : RevokesAt acts place section level
  pub thread : ℕ
  pub th : ThreadState S
  pub stands : (c place).threads thread ≡ Some th
  pub own : th.section ≡ section
  pub was_open : Contains (levels_from level ((c place).levels thread)) p

-- act number k was made with a level open that is doomed
abbrev pub IsInDoomed : {S : Type 0} → (ℕ → Core S) → List Act → ℕ → Type 0
IsInDoomed c acts k = (p : ℕ) × Contains ((c k).levels (mover (slice_get acts k))) p × IsDoomed c acts p

-- the cut of a run: exactly these acts
abbrev pub IsCutOf : {S : Type 0} → (ℕ → Core S) → List Act → (ℕ → Bool) → Type 0
IsCutOf c acts cut = (k : ℕ) → (cut k ≡ true → IsInDoomed c acts k) × (IsInDoomed c acts k → cut k ≡ true)
