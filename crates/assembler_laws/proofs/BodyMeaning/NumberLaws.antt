-- Numbers that a line says are in their ranges.
use Rattle.std.proofs.Common.{◌≡◌, ℕ, zero, suc, ◌+◌, ◌^◌, ◌<◌, ◌≤◌, ℤ, pos, negsuc, Bool, true, ◌&&◌, cond, nat_eq, nat_le, List, [], ◌∷◌, Option, Some, None, FitsSigned, option_map, option_and_then, refl, subst, inl, inr, arith}
use Rattle.std.specs.Int.{w16, w32}
use Rattle.std.proofs.lemmas.Bool.{and_parts, leb-true}
use Rattle.std.proofs.lemmas.Option.{same_Some}
use Rattle.decimal_numbers.specs.Numbers.{has_no_leading_zero, are_digits, digits_value, number_up_to, negative, integer_up_to}
use Rattle.class_names.proofs.Cases.{chosen}

taken : (first last : Bool) (value limit n : ℕ) → (last ≡ true → value ≤ limit) → cond (first && last) (Some value) None ≡ Some n → n ≤ limit
taken first last value limit n within e =
    elim (chosen (first && last) (Some value) None (Some n) e) [
      | inl met ↦ let same : value ≡ n = same_Some value n met.1 in let le : value ≤ limit = within (and_parts first last met.0).1 in omega (arith, same, le)
      | inr missed ↦ absurd (let f = missed.1 in cc)
    ]

-- a number from 0 to a limit is at most that
pub number_within : (limit : ℕ) (bytes : List ℕ) (n : ℕ) → number_up_to limit bytes ≡ Some n → n ≤ limit
number_within limit bytes n e = taken (has_no_leading_zero bytes && are_digits bytes) (nat_le (digits_value 0 bytes) limit) (digits_value 0 bytes) limit n (λ t. leb-true (digits_value 0 bytes) limit t) e

-- at most the limit, or one less than its negative
abbrev IsWithin : ℕ → ℤ → Type 0
IsWithin limit (pos n) = n ≤ limit
IsWithin limit (negsuc n) = n ≤ limit

positive : (limit : ℕ) (o : Option ℕ) (z : ℤ) → ((n : ℕ) → o ≡ Some n → n ≤ limit) → option_map (λ n. pos n) o ≡ Some z → IsWithin limit z
positive limit None z within e = absurd cc
positive limit (Some n) z within e = subst (IsWithin limit) (same_Some (pos n) z e) (within n refl)

below_zero : (limit : ℕ) (o : Option ℕ) (z : ℤ) → ((n : ℕ) → o ≡ Some n → n ≤ limit + 1) → option_and_then negative o ≡ Some z → IsWithin limit z
below_zero limit None z within e = absurd cc
below_zero limit (Some zero) z within e = absurd cc
below_zero limit (Some (suc n)) z within e =
    let le : suc n ≤ limit + 1 = within (suc n) refl in
    let less : n ≤ limit = omega (arith, le) in
    subst (IsWithin limit) (same_Some (negsuc n) z e) less

integer_within : (limit : ℕ) (bytes : List ℕ) (z : ℤ) → integer_up_to limit bytes ≡ Some z → IsWithin limit z
integer_within limit [] z e = absurd cc
integer_within limit (b ∷ bytes) z e =
    elim (chosen (nat_eq b 45) (option_and_then negative (number_up_to (limit + 1) bytes)) (option_map (λ n. pos n) (number_up_to limit (b ∷ bytes))) (Some z) e) [
      | inl minus ↦ below_zero limit (number_up_to (limit + 1) bytes) z (λ n. number_within (limit + 1) bytes n) minus.1
      | inr plus ↦ positive limit (number_up_to limit (b ∷ bytes)) z (λ n. number_within limit (b ∷ bytes) n) plus.1
    ]

signed_16 : (limit : ℕ) (z : ℤ) → limit < 2 ^ 15 → IsWithin limit z → FitsSigned w16 z
signed_16 limit (pos n) few le = record { sfits = omega (arith, few, le) }
signed_16 limit (negsuc n) few le = record { sfits = omega (arith, few, le) }

signed_32 : (limit : ℕ) (z : ℤ) → limit < 2 ^ 31 → IsWithin limit z → FitsSigned w32 z
signed_32 limit (pos n) few le = record { sfits = omega (arith, few, le) }
signed_32 limit (negsuc n) few le = record { sfits = omega (arith, few, le) }

-- an integer up to a limit below 2^15 has two bytes, and one below 2^31 has four
pub integer_16 : (limit : ℕ) (bytes : List ℕ) (z : ℤ) → limit < 2 ^ 15 → integer_up_to limit bytes ≡ Some z → FitsSigned w16 z
integer_16 limit bytes z few e = signed_16 limit z few (integer_within limit bytes z e)

pub integer_32 : (limit : ℕ) (bytes : List ℕ) (z : ℤ) → limit < 2 ^ 31 → integer_up_to limit bytes ≡ Some z → FitsSigned w32 z
integer_32 limit bytes z few e = signed_32 limit z few (integer_within limit bytes z e)
