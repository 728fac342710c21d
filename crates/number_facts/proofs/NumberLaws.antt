-- Results of operations on words are words, and on longs longs.
use Rattle.std.proofs.Common.{◌≡◌, ◌<◌, ◌≤◌, ◌+◌, ◌-◌, ◌*◌, ◌/◌, ◌%◌, ◌^◌, ◌==◌, ℕ, zero, suc, Bool, true, false, None, Some, List, [], ◌∷◌, refl, sym, ap, subst, ◌∙◌, arith, nat_lt, if◌then◌else◌}
use Rattle.std.specs.Prelude.{ℤ, int_div, int_rem}
use Rattle.std.proofs.Math.IntN.{pos, negsuc, neg_ℤ}
use Rattle.std.proofs.Math.Nat.{mod-lt, div-le_self}
use Rattle.std.proofs.lemmas.Nat.{pow_pos, or_lt, xor_lt}
use Rattle.std.proofs.lemmas.Int.{of_z-to_z}
use Rattle.std.proofs.lemmas.Option.{same_Some, none-some}
use Rattle.std.specs.Fmt.{digits_onto, digit_glyph, digits, signed_decimal}
use mir.Val.{bits, hbits}
use Rattle.std.specs.Int.{Width, w8, w16, w32, w64, cast_signed, cast_unsigned, int_shr}
use Rattle.std.specs.Int.Bits.{and_lt}
use Rattle.std.specs.Int.Signed.{mag, mag_rem, mag_shr}
use Rattle.std.specs.List.{AllByRecursion}
use Rattle.instructions.specs.declared.operation.Arithmetic.{Arithmetic}
use Rattle.instructions.specs.declared.operation.Arithmetic.TheVariants.{Add, Subtract, Multiply, Divide, Remainder, And, Or, Xor}
use Rattle.instructions.specs.declared.operation.Shift.{Shift}
use Rattle.instructions.specs.declared.operation.Shift.TheVariants.{Left, Right, UnsignedRight}
use Rattle.link_types.specs.declared.types.ValueType.{ValueType}
use Rattle.link_types.specs.declared.types.ValueType.TheVariants as values
use Rattle.java_rows.specs.Numbers.{result_of, shifted_by, negative_of, kept, byte_of, short_of, long_of}
use Rattle.row_soundness.specs.Numbers.{NumbersFit}
use Rattle.row_soundness.specs.Texts.{AreWords}

module _ (w : Width) where
  -- a number of so small a magnitude has a word
  pub low : (z : ℤ) → mag z < 2 ^ bits w → cast_unsigned w z < 2 ^ bits w
  low (pos n) small = small
  low (negsuc n) small = omega (arith, small)

  read_again : (m : ℕ) → m < 2 ^ bits w → cast_unsigned w (cast_signed w m) < 2 ^ bits w
  read_again m small = subst (λ x. x < 2 ^ bits w) (sym (of_z-to_z w m small)) small

  wrapped : (m : ℕ) → cast_unsigned w (cast_signed w (m % 2 ^ bits w)) < 2 ^ bits w
  wrapped m = read_again (m % 2 ^ bits w) (mod-lt m (pow_pos (bits w)))

  -- the magnitude of a signed number is below half of the words
  module _ (half : 2 ^ bits w ≡ 2 ^ hbits w + 2 ^ hbits w) where
    pub signed_small : (a : ℕ) → a < 2 ^ bits w → mag (cast_signed w a) < 2 ^ hbits w
    signed_small a small = by_test (nat_lt a (2 ^ hbits w)) refl
      where
        by_test : (b : Bool) → nat_lt a (2 ^ hbits w) ≡ b → mag (cast_signed w a) < 2 ^ hbits w
        by_test true e = let low_half = Rattle.std.proofs.lemmas.Bool.ltb-true a (2 ^ hbits w) e in rw e low_half
        by_test false e = let high_half = Rattle.std.proofs.lemmas.Bool.ltb-false a (2 ^ hbits w) e in rw e (omega (arith, half, high_half, small))

    negated : (n : ℕ) → mag (neg_ℤ (pos n)) ≤ n
    negated zero = omega arith
    negated (suc n) = omega arith

    divided : (z d : ℤ) → mag (int_div z d) ≤ suc (mag z)
    divided (pos a) (pos b) = let less = div-le_self a b in omega (arith, less)
    divided (pos a) (negsuc b) = let less = div-le_self a (suc b) in let more = negated (a / suc b) in omega (arith, less, more)
    divided (negsuc a) (pos b) = let less = div-le_self (suc a) b in let more = negated (suc a / b) in omega (arith, less, more)
    divided (negsuc a) (negsuc b) = let less = div-le_self (suc a) (suc b) in omega (arith, less)

    results : (op : Arithmetic) (a b v : ℕ) → a < 2 ^ bits w → b < 2 ^ bits w → result_of w op a b ≡ Some v → v < 2 ^ bits w
    results Add a b v first second e = subst (λ x. x < 2 ^ bits w) (same_Some _ v e) (wrapped _)
    results Subtract a b v first second e = subst (λ x. x < 2 ^ bits w) (same_Some _ v e) (wrapped _)
    results Multiply a b v first second e = subst (λ x. x < 2 ^ bits w) (same_Some _ v e) (wrapped _)
    results Divide a b v first second e = by_zero (b == 0) e
      where
        quotient : cast_unsigned w (int_div (cast_signed w a) (cast_signed w b)) < 2 ^ bits w
        quotient =
            let small = signed_small a first in
            let less = divided (cast_signed w a) (cast_signed w b) in
            low (int_div (cast_signed w a) (cast_signed w b)) (omega (arith, small, less, half))

        by_zero : (t : Bool) → (if t then None else Some (cast_unsigned w (cast_signed w (cast_unsigned w (int_div (cast_signed w a) (cast_signed w b)))))) ≡ Some v → v < 2 ^ bits w
        by_zero true e = absurd (none-some v e)
        by_zero false e = subst (λ x. x < 2 ^ bits w) (same_Some _ v e) (read_again (cast_unsigned w (int_div (cast_signed w a) (cast_signed w b))) quotient)
    results Remainder a b v first second e = by_zero (b == 0) e
      where
        by_zero : (t : Bool) → (if t then None else Some (cast_unsigned w (int_rem (cast_signed w a) (cast_signed w b)))) ≡ Some v → v < 2 ^ bits w
        by_zero true e = absurd (none-some v e)
        by_zero false e =
            let small = signed_small a first in
            let less = mag_rem (cast_signed w a) (cast_signed w b) in
            subst (λ x. x < 2 ^ bits w) (same_Some _ v e) (low (int_rem (cast_signed w a) (cast_signed w b)) (omega (arith, small, less, half)))
    results And a b v first second e = subst (λ x. x < 2 ^ bits w) (same_Some _ v e) (and_lt (bits w) a b first second)
    results Or a b v first second e = subst (λ x. x < 2 ^ bits w) (same_Some _ v e) (or_lt (bits w) a b first second)
    results Xor a b v first second e = subst (λ x. x < 2 ^ bits w) (same_Some _ v e) (xor_lt (bits w) a b first second)

    shifts : (op : Shift) (a distance : ℕ) → a < 2 ^ bits w → shifted_by w op a distance < 2 ^ bits w
    shifts Left a distance small = wrapped _
    shifts Right a distance small =
        let less = mag_shr (cast_signed w a) (2 ^ distance) in
        let first = signed_small a small in
        low (int_shr (cast_signed w a) distance) (omega (arith, less, first, half))
    shifts UnsignedRight a distance small = let less = div-le_self a (2 ^ distance) in omega (arith, less, small)

-- ---- conversions

bytes : (v : ℕ) → byte_of v < 2 ^ 32
bytes v = let small = signed_small w8 refl (v % 2 ^ 8) (mod-lt v (pow_pos 8)) in low w32 (cast_signed w8 (v % 2 ^ 8)) (omega (arith, small))

shorts : (v : ℕ) → short_of v < 2 ^ 32
shorts v = let small = signed_small w16 refl (v % 2 ^ 16) (mod-lt v (pow_pos 16)) in low w32 (cast_signed w16 (v % 2 ^ 16)) (omega (arith, small))

keeps : (t : ValueType) (v : ℕ) → v < 2 ^ 32 → kept t v < 2 ^ 32
keeps values.Boolean v small = let less = mod-lt v (pow_pos 1) in omega (arith, less)
keeps values.Byte v small = bytes v
keeps values.Char v small = let less = mod-lt v (pow_pos 16) in omega (arith, less)
keeps values.Short v small = shorts v
keeps values.Int v small = small
keeps values.Long v small = small
keeps (values.Object t) v small = small

-- ---- digits

glyph : (d : ℕ) → d < 10 → digit_glyph false d < 2 ^ 32
glyph d small = by_test (nat_lt d 10)
  where
    by_test : (b : Bool) → (if b then 48 + d else 87 + d) < 2 ^ 32
    by_test true = omega (arith, small)
    by_test false = omega (arith, small)

glyphs : (k n : ℕ) (later : List ℕ) → AreWords later → AreWords (digits_onto k 10 false n later)
glyphs zero n later words = words
glyphs (suc k) n later words =
    by_test (n / 10 == 0) (digit_glyph false (n % 10) ∷ later) (glyph (n % 10) (omega arith), words)
    (glyphs k (n / 10) (digit_glyph false (n % 10) ∷ later) (glyph (n % 10) (omega arith), words))
  where
    by_test : (b : Bool) (next : List ℕ) → AreWords next → AreWords (digits_onto k 10 false (n / 10) next) → AreWords (if b then next else digits_onto k 10 false (n / 10) next)
    by_test true next here more = here
    by_test false next here more = more

decimals : (n : ℕ) → AreWords (digits 10 false n)
unfolding digits
decimals n = glyphs 64 n [] tt

signed_decimals : (z : ℤ) → AreWords (signed_decimal z)
signed_decimals (pos n) = decimals n
signed_decimals (negsuc n) = (omega arith, decimals (suc n))

pub fit : NumbersFit
fit = record {
  ints = results w32 refl;
  longs = results w64 refl;
  kept = keeps;
  negatives = λ a small. wrapped w32 _;
  long_negatives = λ a small. wrapped w64 _;
  int_shifts = λ op a by small. shifts w32 refl op a (by % 32) small;
  long_shifts = λ op a by small. shifts w64 refl op a (by % 64) small;
  wide = λ a small. let less = signed_small w32 refl a small in low w64 (cast_signed w32 a) (omega (arith, less));
  increments = λ a by small. wrapped w32 _;
  bytes = bytes;
  shorts = shorts;
  int_units = λ v. signed_decimals (cast_signed w32 v);
  long_units = λ low_half high_half. signed_decimals (cast_signed w64 (long_of low_half high_half));
}
