-- Sums over the threads of a core.
use Rattle.std.proofs.Common.{◌≡◌, inl, inr, ℕ, zero, suc, ◌+◌, ◌*◌, ◌<◌, ◌≤◌, Option, None, Some, subst, arith}
use Rattle.std.proofs.lemmas.Bool.Decides.{leb_tells}
use Rattle.thread_automaton.specs.ThreadState.{ThreadState}

-- f 0 + .. + f (n - 1)
abbrev pub sum_below : (ℕ → ℕ) → ℕ → ℕ
sum_below f zero = 0
sum_below f (suc n) = sum_below f n + f n

pub sum_rises : (f g : ℕ → ℕ) → ((u : ℕ) → f u ≤ g u) → (n : ℕ) → sum_below f n ≤ sum_below g n
sum_rises f g up zero = omega arith
sum_rises f g up (suc n) = let low = sum_rises f g up n in let here = up n in omega (arith, low, here)

-- where one part rises by d, so does the sum
pub sum_rises_by : (f g : ℕ → ℕ) → ((u : ℕ) → f u ≤ g u) → (t d : ℕ) → f t + d ≤ g t → (n : ℕ) → t < n → sum_below f n + d ≤ sum_below g n
sum_rises_by f g up t d more zero within = absurd (no t within)
  where
    no : (t : ℕ) → t < 0 → ⊥
    no t within = omega (arith, within)
sum_rises_by f g up t d more (suc n) within = elim (leb_tells n t) [
  | inl high ↦ (let low = sum_rises f g up n in let here : f n + d ≤ g n = subst (λ m. f m + d ≤ g m) (same t n high.1 within) more in omega (arith, low, here))
  | inr less ↦ (let low = sum_rises_by f g up t d more n less.1 in let here = up n in omega (arith, low, here))
]
  where
    same : (t n : ℕ) → n ≤ t → t < suc n → t ≡ n
    same t n high low = omega (arith, high, low)

-- a sum of parts none of which is above m
pub sum_is_low : (f : ℕ → ℕ) (m : ℕ) → ((u : ℕ) → f u ≤ m) → (n : ℕ) → sum_below f n ≤ n * m
sum_is_low f m low zero = omega arith
sum_is_low f m low (suc n) = let before = sum_is_low f m low n in let here = low n in grind (arith, before, here)

-- what a thread has, 0 where there is none
abbrev pub of_thread : {S : Type 0} → (ThreadState S → ℕ) → Option (ThreadState S) → ℕ
of_thread f None = 0
of_thread f (Some th) = f th

-- what is at most a part and a sum stays so as the sum rises, and with it
pub sum_up : (drawn base old new : ℕ) → drawn ≤ base + old → old ≤ new → drawn ≤ base + new
sum_up drawn base old new before up = omega (arith, before, up)

pub sum_up_by : (drawn base old new d after : ℕ) → drawn ≤ base + old → old + d ≤ new → after ≡ drawn + d → after ≤ base + new
sum_up_by drawn base old new d after before up is = omega (arith, before, up, is)
