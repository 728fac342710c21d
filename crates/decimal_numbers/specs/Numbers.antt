-- Numbers in decimal digits.
use Rattle.std.specs.Prelude.{ℕ, zero, suc, ℤ, pos, negsuc, ◌+◌, ◌-◌, ◌*◌, ◌==◌, Bool, true, false, not, List, [], ◌∷◌, nat_le, ◌&&◌, if◌then◌else◌, Option, Some, None, option_map}
use Rattle.std.specs.Option.{option_and_then}

abbrev pub is_digit : ℕ → Bool
is_digit b = nat_le 48 b && nat_le b 57

abbrev pub are_digits : List ℕ → Bool
are_digits [] = true
are_digits (b ∷ bytes) = is_digit b && are_digits bytes

-- the number whose digits are those of n and the bytes
abbrev pub digits_value : ℕ → List ℕ → ℕ
digits_value n [] = n
digits_value n (b ∷ bytes) = digits_value (n * 10 + (b - 48)) bytes

-- whether a number may begin so: with a zero only where that is its one digit
abbrev pub has_no_leading_zero : List ℕ → Bool
has_no_leading_zero [] = false
has_no_leading_zero (b ∷ []) = true
has_no_leading_zero (b ∷ c ∷ bytes) = not (b == 48)

-- the number that the bytes are, where it is at most the limit
abbrev pub number_up_to : ℕ → List ℕ → Option ℕ
number_up_to limit bytes =
    if has_no_leading_zero bytes && are_digits bytes && nat_le (digits_value 0 bytes) limit then Some (digits_value 0 bytes) else None

-- the number below zero, where there is one
abbrev pub negative : ℕ → Option ℤ
negative zero = None
negative (suc n) = Some (negsuc n)

-- the number with its sign, where it is at most the limit, and not below the limit's negative by more than one
abbrev pub integer_up_to : ℕ → List ℕ → Option ℤ
integer_up_to limit [] = None
integer_up_to limit (b ∷ bytes) = if b == 45 then option_and_then negative (number_up_to (limit + 1) bytes) else option_map (λ n. pos n) (number_up_to limit (b ∷ bytes))
