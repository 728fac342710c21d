-- A number is written in decimal digits, and read from them.
use Rattle.std.proofs.Common.{◌≡◌, ℕ, zero, suc, ◌+◌, ◌<◌, ◌≤◌, ◌^◌, ◌==◌, Bool, true, false, not, ◌&&◌, cond, nat_le, List, [], ◌∷◌, length, drop, get_or, Some, None, refl, sym, ap, ◌∙◌, arith, add-one, drop-cons}
use Rattle.std.specs.Fmt.{decimal}
use Rattle.std.proofs.lemmas.Bool.{and_parts, leb-true, le-leb, ne_eqb}
use Rattle.std.proofs.lemmas.Option.{same_Some}
use Rattle.std.proofs.lemmas.Fmt.{decimal-digits_value, digits_value-decimal, digits_decimal, first_decimal, decimal_nonempty, decimal_digit}
use Rattle.std.proofs.lemmas.Str.Parse.{IsDigitsTest, FoldsDigits, IsNumeralModel, numerals_by_fold}
use Rattle.decimal_numbers.specs.Numbers.{is_digit, are_digits, digits_value, has_no_leading_zero, number_up_to}

digits_are : IsDigitsTest (λ ds. are_digits ds ≡ true)
digits_are = record {
  empty = refl;
  parts = λ c cs e. let k = and_parts (is_digit c) (are_digits cs) e in let m = and_parts (nat_le 48 c) (nat_le c 57) k.0 in ((leb-true 48 c m.0, leb-true c 57 m.1), k.1);
  more = λ c cs k e i. (le-leb 48 c k.0 i && le-leb c 57 k.1 i) && e i;
}

digits_fold : FoldsDigits digits_value
digits_fold = record { empty = λ n. refl; more = λ n c cs k. refl }

numerals : IsNumeralModel (λ ds. are_digits ds ≡ true) (digits_value 0)
numerals = numerals_by_fold _ digits_are digits_value digits_fold

-- a number is written in digits alone
pub decimal_digits : (n : ℕ) → n < 2 ^ 64 → are_digits (decimal n) ≡ true
decimal_digits n h = digits_decimal numerals n h

led : (ds : List ℕ) → 0 < length ds → (get_or ds 0 0 ≡ 48 → length ds ≡ 1) → has_no_leading_zero ds ≡ true
led [] some lead = absurd (omega arith)
led (b ∷ []) some lead = refl
led (b ∷ c ∷ ds) some lead = ap not (ne_eqb b 48 (λ e. let one = lead e in omega (arith, one)))

alone : (ds : List ℕ) → has_no_leading_zero ds ≡ true → (0 < length ds) × (get_or ds 0 0 ≡ 48 → length ds ≡ 1)
alone [] h = absurd cc
alone (b ∷ []) h = (omega arith, λ e. refl)
alone (b ∷ c ∷ ds) h = (omega arith, λ e. absurd (let f : not (b == 48) ≡ false = ap (λ x. not (x == 48)) e in cc))

-- a number alone begins with a zero only where it is 0
lead_of : (n : ℕ) → n < 2 ^ 64 → get_or (decimal n) 0 0 ≡ 48 → length (decimal n) ≡ 1
lead_of zero h e = ap length (decimal_digit 0 (omega arith))
lead_of (suc n) h e = absurd (let more = first_decimal (suc n) (omega arith) h in omega (arith, e, more))

-- a number is written with no leading zero
pub decimal_leads : (n : ℕ) → n < 2 ^ 64 → has_no_leading_zero (decimal n) ≡ true
decimal_leads n h = led (decimal n) (decimal_nonempty n h) (lead_of n h)

-- the digits of a number up to a limit are that number
pub number_of : (limit n : ℕ) → limit < 2 ^ 64 → n ≤ limit → number_up_to limit (decimal n) ≡ Some n
number_of limit n small le =
    let h : n < 2 ^ 64 = omega (arith, small, le) in
    let lead : has_no_leading_zero (decimal n) ≡ true = decimal_leads n h in
    let digits : are_digits (decimal n) ≡ true = decimal_digits n h in
    let value : digits_value 0 (decimal n) ≡ n = digits_value-decimal numerals n h in
    let fits : nat_le n limit ≡ true = le-leb n limit le in
    rw (lead, digits, value, fits) refl

taken : (first second last : Bool) (value limit n : ℕ) → cond (first && second && last) (Some value) None ≡ Some n → (first ≡ true) × (second ≡ true) × (last ≡ true) × (value ≡ n)
taken true true true value limit n e = (refl, refl, refl, same_Some value n e)
taken true true false value limit n e = absurd cc
taken true false last value limit n e = absurd cc
taken false second last value limit n e = absurd cc

-- what is read as a number are its digits
pub number_is : (limit : ℕ) (word : List ℕ) (n : ℕ) → limit < 2 ^ 64 → number_up_to limit word ≡ Some n → (n ≤ limit) × (word ≡ decimal n)
number_is limit word n small e =
    let parts = taken (has_no_leading_zero word) (are_digits word) (nat_le (digits_value 0 word) limit) (digits_value 0 word) limit n e in
    let le : digits_value 0 word ≤ limit = leb-true (digits_value 0 word) limit parts.2 in
    let shape = alone word parts.0 in
    let spelled : decimal (digits_value 0 word) ≡ word = decimal-digits_value numerals word parts.1 shape.0 shape.1 (omega (arith, small, le)) in
    (omega (arith, le, parts.3), sym spelled ∙ ap decimal parts.3)

-- digits, byte by byte
pub not_digits : (bytes : List ℕ) (i : ℕ) → i < length bytes → is_digit (get_or bytes i 0) ≡ false → are_digits (drop i bytes) ≡ false
not_digits bytes i lt f = ap are_digits (drop-cons bytes i 0 lt) ∙ rw f refl

pub more_digits : (bytes : List ℕ) (i : ℕ) → i < length bytes → is_digit (get_or bytes i 0) ≡ true → are_digits (drop i bytes) ≡ are_digits (drop (i + 1) bytes)
more_digits bytes i lt t = ap are_digits (drop-cons bytes i 0 lt) ∙ rw (t, add-one) refl
