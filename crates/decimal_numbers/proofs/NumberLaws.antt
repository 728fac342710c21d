-- The number of digits, digit by digit.
use Rattle.std.proofs.Common.{◌≡◌, ℕ, ◌+◌, ◌-◌, ◌*◌, ◌<◌, ◌≤◌, true, false, cond, leb, List, [], ◌∷◌, length, drop, get_or, Option, Some, None, ◌&&◌, refl, ap, ◌∙◌, arith, add-one, drop-cons}
use Rattle.std.proofs.lemmas.Bool.{lt-leb, le-leb, and_right}
use Rattle.std.proofs.lemmas.List.{drop_all}
use Rattle.decimal_numbers.specs.Numbers.{is_digit, are_digits, digits_value}

digits_grow : (n : ℕ) (bytes : List ℕ) → n ≤ digits_value n bytes
digits_grow n [] = omega arith
digits_grow n (b ∷ bytes) = let more = digits_grow (n * 10 + (b - 48)) bytes in omega arith

-- what the digits give that are not read yet
abbrev pub left_value : ℕ → ℕ → List ℕ → Option ℕ
left_value limit n bytes = cond (are_digits bytes && leb (digits_value n bytes) limit) (Some (digits_value n bytes)) None

pub value_no_digit : (limit n : ℕ) (bytes : List ℕ) (i : ℕ) → i < length bytes → is_digit (get_or bytes i 0) ≡ false → left_value limit n (drop i bytes) ≡ None
value_no_digit limit n bytes i lt f = ap (left_value limit n) (drop-cons bytes i 0 lt) ∙ rw f refl

pub value_more : (limit n : ℕ) (bytes : List ℕ) (i : ℕ) → i < length bytes → is_digit (get_or bytes i 0) ≡ true → left_value limit n (drop i bytes) ≡ left_value limit (n * 10 + (get_or bytes i 0 - 48)) (drop (i + 1) bytes)
value_more limit n bytes i lt t = ap (left_value limit n) (drop-cons bytes i 0 lt) ∙ rw (t, add-one) refl

pub value_large : (limit n : ℕ) (bytes : List ℕ) → limit < n → left_value limit n bytes ≡ None
value_large limit n bytes lt =
    let more = digits_grow n bytes in
    let beyond : leb (digits_value n bytes) limit ≡ false = lt-leb _ _ (omega arith) in
    rw (beyond, and_right (are_digits bytes) false refl) refl

pub value_end : (limit n : ℕ) (bytes : List ℕ) (i : ℕ) → length bytes ≤ i → n ≤ limit → left_value limit n (drop i bytes) ≡ Some n
value_end limit n bytes i ge le = let all : drop i bytes ≡ [] = drop_all i bytes ge in let fits : leb n limit ≡ true = le-leb _ _ le in rw (all, fits) refl
