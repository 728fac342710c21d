-- Reading a piece gives what the piece stands for.
use Rattle.std.proofs.Common.{◌≡◌, ℕ, ◌<◌, false, cond, eqb, List, [], ◌∷◌, ◌++◌, length, Some, None, option_map, refl, sym, ap, ◌∙◌, subst, inl, inr, arith, length-append}
use Rattle.std.proofs.lemmas.Bool.{cases_Bool, eqb-true}
use Rattle.assembler_lines.specs.Piece.{stands_for_itself, hex_value, escaped, IsHexUnit, IsPiece}
use Rattle.assembler_lines.specs.ReadingPiece.{hex_digits, escape_at, piece_at}
use Rattle.class_names.proofs.Cases.{chosen, mapped, went_on, first_same, second_same}

escaped_no_unit : (b unit : ℕ) → escaped b ≡ Some unit → eqb b 117 ≡ false
escaped_no_unit b unit e =
    elim (cases_Bool (eqb b 117)) [
      | inl t ↦ absurd (let is : b ≡ 117 = eqb-true b 117 t in let none : None ≡ Some unit = subst (λ (n : ℕ). escaped n ≡ Some unit) is e in cc)
      | inr f ↦ f
    ]

-- a piece at the front is read
pub piece_again : (piece : List ℕ) (unit : ℕ) (rest : List ℕ) → IsPiece piece unit → piece_at (piece ++ rest) ≡ Some (unit, rest)
piece_again [] unit rest h = absurd h
piece_again (a ∷ []) unit rest h = rw (h.0, h.1) refl
piece_again (a ∷ b ∷ []) unit rest h =
    let no = escaped_no_unit b unit h.1 in
    rw (h.0, no, h.1) refl
piece_again (a ∷ b ∷ c ∷ []) unit rest h = absurd h
piece_again (a ∷ b ∷ c ∷ d ∷ []) unit rest h = absurd h
piece_again (a ∷ b ∷ c ∷ d ∷ e ∷ []) unit rest h = absurd h
piece_again (a ∷ b ∷ c ∷ d ∷ e ∷ f ∷ []) unit rest h = rw (h.0, h.1, h.2.has_first, h.2.has_second, h.2.has_third, h.2.has_fourth, h.2.is) refl
piece_again (a ∷ b ∷ c ∷ d ∷ e ∷ f ∷ g ∷ bytes) unit rest h = absurd h

-- what is read is a piece
pub record TakesPiece (bytes : List ℕ) (x : ℕ × List ℕ) : Type 0 where
  pub piece : List ℕ
  pub good : IsPiece piece x.0
  pub spelled : bytes ≡ piece ++ x.1

record TakesDigits (bytes : List ℕ) (x : ℕ × List ℕ) : Type 0 where
  c : ℕ
  d : ℕ
  e : ℕ
  f : ℕ
  good : IsHexUnit c d e f x.0
  spelled : bytes ≡ c ∷ d ∷ e ∷ f ∷ x.1

digits_take : (bytes : List ℕ) (x : ℕ × List ℕ) → hex_digits bytes ≡ Some x → TakesDigits bytes x
digits_take [] x h = absurd cc
digits_take (c ∷ []) x h = absurd cc
digits_take (c ∷ d ∷ []) x h = absurd cc
digits_take (c ∷ d ∷ e ∷ []) x h = absurd cc
digits_take (c ∷ d ∷ e ∷ f ∷ rest) x h =
    let one = went_on _ (hex_value c) x h in
    let two = went_on _ (hex_value d) x one.2 in
    let three = went_on _ (hex_value e) x two.2 in
    let four = mapped _ (hex_value f) x three.2 in
    record {
      c = c;
      d = d;
      e = e;
      f = f;
      good = record { first = one.0; second = two.0; third = three.0; fourth = four.0; has_first = one.1; has_second = two.1; has_third = three.1; has_fourth = four.1; is = ap (λ (p : ℕ × List ℕ). p.0) (sym four.2) };
      spelled = ap (λ (p : ℕ × List ℕ). c ∷ d ∷ e ∷ f ∷ p.1) four.2;
    }

escape_takes : (bytes : List ℕ) (x : ℕ × List ℕ) → escape_at bytes ≡ Some x → TakesPiece (92 ∷ bytes) x
escape_takes [] x h = absurd cc
escape_takes (b ∷ rest) x h =
    elim (chosen (eqb b 117) (hex_digits rest) (option_map (λ (unit : ℕ). (unit, rest)) (escaped b)) (Some x) h) [
      | inl t ↦
          let digits = digits_take rest x t.1 in
          record { piece = 92 ∷ b ∷ digits.c ∷ digits.d ∷ digits.e ∷ digits.f ∷ []; good = (refl, eqb-true b 117 t.0, digits.good); spelled = ap (λ (ys : List ℕ). 92 ∷ b ∷ ys) digits.spelled }
      | inr t ↦
          let unit = mapped (λ (unit : ℕ). (unit, rest)) (escaped b) x t.1 in
          record { piece = 92 ∷ b ∷ []; good = (refl, unit.1 ∙ ap (λ (p : ℕ × List ℕ). Some p.0) unit.2); spelled = ap (λ (p : ℕ × List ℕ). 92 ∷ b ∷ p.1) unit.2 }
    ]

pub piece_takes : (bytes : List ℕ) (x : ℕ × List ℕ) → piece_at bytes ≡ Some x → TakesPiece bytes x
piece_takes [] x h = absurd cc
piece_takes (a ∷ rest) x h =
    elim (chosen (stands_for_itself a) (Some (a, rest)) (cond (eqb a 92) (escape_at rest) None) (Some x) h) [
      | inl t ↦ record { piece = a ∷ []; good = (t.0, sym (first_same (a, rest) x t.1)); spelled = ap (λ (ys : List ℕ). a ∷ ys) (second_same (a, rest) x t.1) }
      | inr t ↦
          elim (chosen (eqb a 92) (escape_at rest) None (Some x) t.1) [
            | inl u ↦ let is : 92 ≡ a = sym (eqb-true a 92 u.0) in subst (λ (n : ℕ). TakesPiece (n ∷ rest) x) is (escape_takes rest x u.1)
            | inr u ↦ absurd (let no = u.1 in cc)
          ]
    ]

piece_full : (piece : List ℕ) (unit : ℕ) → IsPiece piece unit → 0 < length piece
piece_full [] unit h = absurd h
piece_full (a ∷ bytes) unit h = omega arith

pub piece_shorter : (bytes : List ℕ) (unit : ℕ) (rest : List ℕ) → piece_at bytes ≡ Some (unit, rest) → length rest < length bytes
piece_shorter bytes unit rest e =
    let t = piece_takes bytes (unit, rest) e in
    omega (arith, ap length t.spelled, length-append t.piece rest, piece_full t.piece unit t.good)
