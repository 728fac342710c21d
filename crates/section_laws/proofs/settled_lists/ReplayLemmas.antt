-- Logs that are played back.
use Rattle.std.proofs.Common.{◌≡◌, ◌≢◌, ◌⊎◌, ◌||◌, ℕ, Bool, true, false, List, [], ◌∷◌, nat_eq, refl, sym, ◌∙◌, ap, inl, inr, arith}
use Rattle.std.proofs.lemmas.Grind.{common_steps}
use Rattle.std.proofs.lemmas.Bool.Decides.{nat_tests}
use Rattle.op_core.specs.OrdinaryState.{set_at}
use Rattle.op_core.proofs.PointwiseLemmas.{set_at-at, set_at-hit, set_at-other, set_at-both}
use Rattle.write_log.specs.declared.Noted.{Noted}
use Rattle.section_laws.specs.Settled.{replay, notes}

-- what is put back at a place depends on the word there alone
pub replay_reads : (log : List Noted) (f g : ℕ → ℕ) (p : ℕ) → f p ≡ g p → replay log f p ≡ replay log g p
replay_reads [] f g p same = same
replay_reads (x ∷ log) f g p same =
    replay_reads log (set_at f x.at x.old) (set_at g x.at x.old) p (set_at-both (λ a b. a ≡ b) f g x.at x.old x.old p (λ _. refl) (λ _. same))

pub not_noted : (p : ℕ) (x : Noted) (log : List Noted) → notes p (x ∷ log) ≡ false → (p ≢ x.at) × (notes p log ≡ false)
not_noted p x log none = by_test (nat_eq x.at p) refl none
  where
    no : (m n : ℕ) → nat_eq m n ≡ false → n ≢ m
    no m n is e = grind (arith, common_steps, nat_tests)

    by_test : (t : Bool) → nat_eq x.at p ≡ t → (t || notes p log) ≡ false → (p ≢ x.at) × (notes p log ≡ false)
    by_test true is none = cc
    by_test false is none = (no x.at p is, none)

pub noted_first : (x : Noted) (log : List Noted) → notes x.at (x ∷ log) ≡ true
noted_first x log = ap (λ t. t || notes x.at log) (eq x.at)
  where
    eq : (n : ℕ) → nat_eq n n ≡ true
    eq n = grind (arith, common_steps, nat_tests)

pub noted_more : (p : ℕ) (x : Noted) (log : List Noted) → notes p log ≡ true → notes p (x ∷ log) ≡ true
noted_more p x log is = by_test (nat_eq x.at p)
  where
    by_test : (t : Bool) → (t || notes p log) ≡ true
    by_test true = refl
    by_test false = is

pub noted_or : (p : ℕ) (x : Noted) (log : List Noted) → notes p (x ∷ log) ≡ true → (p ≡ x.at) ⊎ (notes p log ≡ true)
noted_or p x log is = by_test (nat_eq x.at p) refl is
  where
    yes : (m n : ℕ) → nat_eq m n ≡ true → n ≡ m
    yes m n is = grind (arith, common_steps, nat_tests)

    by_test : (t : Bool) → nat_eq x.at p ≡ t → (t || notes p log) ≡ true → (p ≡ x.at) ⊎ (notes p log ≡ true)
    by_test true eq is = inl (yes x.at p eq)
    by_test false eq is = inr is

-- a word that isn't logged stays
pub replay_unnoted : (log : List Noted) (f : ℕ → ℕ) (p : ℕ) → notes p log ≡ false → replay log f p ≡ f p
replay_unnoted [] f p none = refl
replay_unnoted (x ∷ log) f p none =
    let apart = not_noted p x log none in
    replay_unnoted log (set_at f x.at x.old) p apart.1 ∙ set_at-other f x.at x.old p apart.0

pub tested : (b : Bool) → (b ≡ true) ⊎ (b ≡ false)
tested true = inl refl
tested false = inr refl

pub both : {A : Type 0} (b : Bool) → b ≡ true → b ≡ false → A
both b is none = cc
