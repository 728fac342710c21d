-- The rules of fields, by the numbers of texts.
use Rattle.std.proofs.Common.{◌≡◌, ◌≢◌, ℕ, zero, suc, ◌-◌, Bool, true, false, List, [], map, get_or, slice_get, Option, None, Some, Result, Ok, Err, refl, sym, ◌∙◌, ap, subst, arith, unwrap_or}
use Rattle.std.specs.Option.{option_map, option_map_or}
use Rattle.std.proofs.lemmas.Option.{slice_get-map, get_or_from_slice_get, same_Some}
use Rattle.rules.specs.Rules.{Rules, each}
use Rattle.class_names.specs.Reading.{kind_at, base_at}
use Rattle.link_types.specs.declared.refusal.LinkRefusal.{LinkRefusal}
use Rattle.link_rules.specs.Descriptors.{has_float}
use Rattle.text_numbers.specs.Numbers.{number_of}
use Rattle.text_numbers.proofs.NumberLaws.{text_of_number}
use Rattle.class_supers.specs.Answers.{KeepsExactly}

-- the rules of what a list is made of
pub each_map : {X Y T : Type 0} (rules : ℕ → Y → Rules LinkRefusal) (f : X → Y) (xs : List X) (r : Result T LinkRefusal) → KeepsExactly r (each (λ i x. rules i (f x)) xs) → KeepsExactly r (each rules (map f xs))
each_map {X} {Y} rules f xs (Ok t) holds = λ i y at. go i y (slice_get xs i) refl (sym (slice_get-map f xs i) ∙ at)
  where
    go : (i : ℕ) (y : Y) (o : Option X) → slice_get xs i ≡ o → option_map f o ≡ Some y → (rules i y).Hold
    go i y None at e = absurd cc
    go i y (Some x) at e = subst (λ z. (rules i z).Hold) (same_Some (f x) y e) (holds i x at)
each_map {X} {Y} rules f xs (Err e) broken = (
  broken.0,
  f broken.1,
  slice_get-map f xs broken.0 ∙ ap (option_map f) broken.2,
  λ i y lt at. go i y lt (slice_get xs i) refl (sym (slice_get-map f xs i) ∙ at),
  broken.4,
)
  where
    go : (i : ℕ) (y : Y) → Rattle.std.proofs.Common.◌<◌ i broken.0 → (o : Option X) → slice_get xs i ≡ o → option_map f o ≡ Some y → (rules i y).Hold
    go i y lt None at e = absurd cc
    go i y lt (Some x) at e = subst (λ z. (rules i z).Hold) (same_Some (f x) y e) (broken.3 i x lt at)

-- whether the text of an entry has a float, by its number
float_at : (ts : List (List ℕ)) (floats : List Bool) (t : List ℕ) → floats ≡ map has_float ts → number_of ts t ≢ 0 → get_or floats (number_of ts t - 1) false ≡ has_float t
float_at ts floats t are some = go (number_of ts t) refl some
  where
    go : (n : ℕ) → number_of ts t ≡ n → n ≢ 0 → get_or floats (n - 1) false ≡ has_float t
    go zero is ne = absurd (ne refl)
    go (suc i) is ne =
        let place : suc i - 1 ≡ i = omega arith in
        ap (λ k. get_or floats k false) place ∙ get_or_from_slice_get floats i (has_float t) false (ap (λ fs. slice_get fs i) are ∙ slice_get-map has_float ts i ∙ ap (option_map has_float) (text_of_number ts t i is))

pub float_is : (ts : List (List ℕ)) (floats : List Bool) (o : Option (List ℕ)) (n : ℕ) → floats ≡ map has_float ts → n ≡ option_map_or (number_of ts) o 0 → n ≢ 0 → get_or floats (n - 1) false ≡ has_float (unwrap_or o [])
float_is ts floats None n are is some = absurd (some is)
float_is ts floats (Some t) n are is some = ap (λ k. get_or floats (k - 1) false) is ∙ float_at ts floats t are (λ z. some (is ∙ z))

pub float_none : (ts : List (List ℕ)) (o : Option (List ℕ)) (n : ℕ) → n ≡ option_map_or (number_of ts) o 0 → n ≡ 0 → ((t : List ℕ) → o ≡ Some t → number_of ts t ≢ 0) → false ≡ has_float (unwrap_or o [])
unfolding kind_at base_at
float_none ts None n is none known = refl
float_none ts (Some t) n is none known = absurd (known t refl (sym is ∙ none))
