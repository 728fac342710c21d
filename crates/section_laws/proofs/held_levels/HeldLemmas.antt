-- Lists of held monitors by level.
use Rattle.std.proofs.Common.{◌≡◌, ℕ, ◌-◌, ◌<◌, ◌≤◌, Bool, true, false, List, [], ◌∷◌, nat_eq, refl, arith}
use Rattle.std.specs.Prelude.{nat_lt, nat_le, not, if◌then◌else◌}
use Rattle.std.proofs.lemmas.Grind.{common_steps}
use Rattle.std.proofs.lemmas.Bool.Decides.{nat_tests}
use Rattle.op_core.specs.declared.Op.TheVariants.{Exit}
use Rattle.op_core.specs.declared.Next.{Next}
use Rattle.op_core.specs.declared.Next.TheVariants.{Want}
use Rattle.step_port.specs.declared.step.Step.TheVariants.{Release}
use Rattle.thread_automaton.specs.declared.Attempt.{Attempt}
use Rattle.thread_automaton.specs.declared.Attempt.TheVariants.{Fixed}
use Rattle.thread_automaton.specs.declared.Held.{Held}
use Rattle.thread_automaton.specs.ThreadState.{held_as, with_depth_of, from_level, highest}
use Rattle.thread_automaton.specs.Changes.{without}
use Rattle.automaton_rows.proofs.RowLemmas.{by_if}
use Rattle.section_laws.specs.HeldLevels.{AreAtMost, kept_by}

pub at_most_more : (m n : ℕ) (held : List Held) → m ≤ n → AreAtMost m held → AreAtMost n held
at_most_more m n [] low each = tt
at_most_more m n (h ∷ held) low each = (omega (arith, low, each.0), at_most_more m n held low each.1)

pub without_low : (n r : ℕ) (held : List Held) → AreAtMost n held → AreAtMost n (without r held)
without_low n r [] each = tt
without_low n r (h ∷ held) each = by_if (λ xs. AreAtMost n xs) (not (nat_eq h.object r)) (h ∷ without r held) (without r held)
    (λ _. (each.0, without_low n r held each.1)) (λ _. without_low n r held each.1)

pub with_depth_low : (n r depth : ℕ) (held : List Held) → AreAtMost n held → AreAtMost n (with_depth_of r depth held)
with_depth_low n r depth [] each = tt
with_depth_low n r depth (h ∷ held) each =
    by_if (λ (x : Held). (x.level ≤ n) × AreAtMost n (with_depth_of r depth held)) (nat_eq h.object r) (record h { depth = depth }) h
    (λ _. (each.0, with_depth_low n r depth held each.1)) (λ _. (each.0, with_depth_low n r depth held each.1))

pub level_low : (n r : ℕ) (held : List Held) → 0 < n → AreAtMost n held → (held_as r held).level ≤ n
level_low n r [] some each = omega (arith, some)
level_low n r (h ∷ held) some each = by_if (λ (x : Held). x.level ≤ n) (nat_eq h.object r) h (held_as r held) (λ _. each.0) (λ _. level_low n r held some each.1)

less : (m n : ℕ) → nat_lt m n ≡ true → m < n
less m n is = grind (arith, common_steps, nat_tests)

not_less : (m n : ℕ) → nat_lt m n ≡ false → n ≤ m
not_less m n is = grind (arith, common_steps, nat_tests)

-- the greatest level is none of a lower one
pub highest_bounds : (held : List Held) → AreAtMost (highest held) held
highest_bounds [] = tt
highest_bounds (h ∷ held) = by_test (nat_lt (highest held) h.level) refl (highest_bounds held)
  where
    up : (m n : ℕ) → m < n → m ≤ n
    up m n is = omega (arith, is)

    same : (n : ℕ) → n ≤ n
    same n = omega arith

    by_test : (t : Bool) → nat_lt (highest held) h.level ≡ t → AreAtMost (highest held) held → (h.level ≤ (if t then h.level else highest held)) × AreAtMost (if t then h.level else highest held) held
    by_test true is rest = (same h.level, at_most_more (highest held) h.level held (up (highest held) h.level (less (highest held) h.level is)) rest)
    by_test false is rest = (not_less (highest held) h.level is, rest)

-- where none is of level n or further inside, all are further out
pub below_level : (n : ℕ) (held : List Held) → from_level n held ≡ [] → AreAtMost (n - 1) held
below_level n [] none = tt
below_level n (h ∷ held) none = by_test (nat_le n h.level) refl none (λ more. below_level n held more)
  where
    lower : (n m : ℕ) → nat_le n m ≡ false → m ≤ n - 1
    lower n m is = under n m (above n m is)
      where
        above : (n m : ℕ) → nat_le n m ≡ false → m < n
        above n m is = grind (arith, common_steps, nat_tests)

        under : (n m : ℕ) → m < n → m ≤ n - 1
        under n m is = omega (arith, is)

    by_test : (t : Bool) → nat_le n h.level ≡ t → (if t then h ∷ from_level n held else from_level n held) ≡ [] → (from_level n held ≡ [] → AreAtMost (n - 1) held) → (h.level ≤ n - 1) × AreAtMost (n - 1) held
    by_test true is none rest = absurd (not_empty none)
      where
        not_empty : h ∷ from_level n held ≡ [] → ⊥
        not_empty same = cc
    by_test false is none rest = (lower n h.level is, rest none)

pub kept_low : (n : ℕ) (g : Attempt) (next : Next) (held : List Held) → AreAtMost n held → AreAtMost n (kept_by g next held)
kept_low n (Fixed (Release q)) (Want (Exit r)) held each = without_low n r held each
kept_low n g next held each = each

pub highest_low : (n : ℕ) (held : List Held) → AreAtMost n held → highest held ≤ n
highest_low n [] each = omega arith
highest_low n (h ∷ held) each = by_if (λ m. m ≤ n) (nat_lt (highest held) h.level) h.level (highest held) (λ _. each.0) (λ _. highest_low n held each.1)

-- those that are held beside the monitor of an exit
pub kept_exit : (n r : ℕ) (g : Attempt) (held : List Held) → AreAtMost n (kept_by g (Want (Exit r)) held) → AreAtMost n (without r held)
kept_exit n r (Fixed (Release q)) held each = each
kept_exit n r g held each = without_low n r held each
