-- The units of string literals, by their numbers.
use Rattle.std.proofs.Common.{◌≡◌, ◌<◌, ◌≤◌, ◌+◌, ℕ, zero, suc, List, [], ◌∷◌, ◌++◌, length, map, Option, None, Some, slice_get, unwrap_or, chars, inl, inr, refl, sym, ap, ◌∙◌, arith}
use Rattle.std.proofs.lemmas.Bool.{cases_lt}
use Rattle.std.proofs.lemmas.List.FromFn.{length-map-range_with_len, map-range_with_len_more}
use Rattle.std.proofs.lemmas.Str.{chars-nil}
use Rattle.std.specs.List.{flat_map, range_with_len}
use Rattle.std.specs.Option.{option_map_or}
use Rattle.std.specs.Char.Escape.{encode_utf16}
use Rattle.code_decode.specs.declared.code.ClassUnit.{ClassUnit}
use Rattle.link_rules.specs.Strings.{string_texts}
use Rattle.java_rows.specs.Units.{literal_units}
use Rattle.text_units.specs.Units.{units_of_text}
use Rattle.java_world.specs.Literals.{literals_of, literal_in}

pub one_more : (us : List ClassUnit) (n : ℕ)
    → map (literal_units us) (range_with_len 0 (n + 1)) ≡ map (literal_units us) (range_with_len 0 n) ++ literal_units us n ∷ []
one_more us n = map-range_with_len_more (literal_units us) 0 n n (omega arith)

entry : {X : Type 0} (f : ℕ → X) (a m n : ℕ) → n < m → slice_get (map f (range_with_len a m)) n ≡ Some (f (a + n))
entry f a zero n below = absurd (omega (arith, below))
entry f a (suc m) zero below = let same : a ≡ a + 0 = omega arith in ap (λ k. Some (f k)) same
entry f a (suc m) (suc n) below =
    let same : a + 1 + n ≡ a + suc n = omega arith in
    entry f (a + 1) m n (omega (arith, below)) ∙ ap (λ k. Some (f k)) same

past_end : {X : Type 0} (xs : List X) (n : ℕ) → length xs ≤ n → slice_get xs n ≡ None
past_end [] n past = refl
past_end (x ∷ xs) zero past = absurd (omega (arith, past))
past_end (x ∷ xs) (suc n) past = past_end xs n (omega (arith, past))

-- a number without a literal
none_there : (us : List ClassUnit) (n : ℕ) → length (string_texts us) ≤ n → [] ≡ literal_units us n
none_there us n past = sym (ap (λ t. units_of_text (unwrap_or t [])) (past_end (string_texts us) n past) ∙ ap (flat_map encode_utf16) chars-nil)

pub literal_at : (us : List ClassUnit) (n : ℕ) → literal_in (literals_of us) n ≡ literal_units us n
literal_at us n = elim (cases_lt n (length (string_texts us))) [
  | inl below ↦ ap (λ o. option_map_or (λ (units : List ℕ). units) o []) (entry (literal_units us) 0 (length (string_texts us)) n below)
      ∙ (let same : 0 + n ≡ n = omega arith in ap (literal_units us) same)
  | inr past ↦ (let count = length-map-range_with_len (literal_units us) 0 (length (string_texts us)) in
      ap (λ o. option_map_or (λ (units : List ℕ). units) o []) (past_end (literals_of us) n (omega (arith, count, past))) ∙ none_there us n past)
]
