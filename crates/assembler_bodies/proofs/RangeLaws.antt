-- Code that gets an instruction more.
use Rattle.std.proofs.Common.{◌≡◌, ℕ, ◌^◌, ◌<◌, ◌≤◌, Bool, true, false, ◌&&◌, cond, ltb, List, ◌++◌, length, Some, None, ◌⊎◌, inl, inr, refl, sym, ap, ◌∙◌, arith}
use Rattle.std.proofs.lemmas.Bool.{cases_Bool}
use Rattle.std.proofs.lemmas.Bool.Decides.{Decides-ltb}
use Rattle.code_write.specs.declared.operands.Written.{Written}
use Rattle.code_write.specs.Instruction.{instruction_bytes, IsInRange}
use Rattle.assembler_bodies.specs.Body.{is_in_range, code_with}

with_tests : (written : Written ℕ) (code : List ℕ) (a b : Bool) → (is_in_range (length code) written.operands).holds ≡ a → ltb (length (code ++ instruction_bytes (length code) written)) (2 ^ 16) ≡ b
    → code_with written code ≡ cond (a && b) (Some (code ++ instruction_bytes (length code) written)) None
unfolding code_with
with_tests written code a b range room = rw (range, room) refl

no_range : (written : Written ℕ) (code : List ℕ) → (is_in_range (length code) written.operands).holds ≡ false → code_with written code ≡ None
unfolding code_with
no_range written code none = rw none refl

module _ (written : Written ℕ) (code new : List ℕ) where
  pub code_put : IsInRange (length code) written.operands → new ≡ code ++ instruction_bytes (length code) written → length new ≤ 65535 → code_with written code ≡ Some new
  code_put range put room =
      let less : length (code ++ instruction_bytes (length code) written) < 2 ^ 16 = omega (arith, ap length put, room) in
      with_tests written code true true ((is_in_range (length code) written.operands).tells.1 range) ((Decides-ltb _ (2 ^ 16)).1 less) ∙ ap (λ (bytes : List ℕ). Some bytes) (sym put)

pub code_out : (written : Written ℕ) (code : List ℕ) → (¬ IsInRange (length code) written.operands) → code_with written code ≡ None
code_out written code out = by_cases (cases_Bool (is_in_range (length code) written.operands).holds)
  where
    by_cases : ((is_in_range (length code) written.operands).holds ≡ true) ⊎ ((is_in_range (length code) written.operands).holds ≡ false) → code_with written code ≡ None
    by_cases (inl range) = absurd (out ((is_in_range (length code) written.operands).tells.0 range))
    by_cases (inr none) = no_range written code none
