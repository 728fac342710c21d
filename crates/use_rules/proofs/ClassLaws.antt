-- Classes by the numbers of their names.
use Rattle.std.proofs.Common.{◌≡◌, ◌≢◌, ℕ, zero, suc, ◌-◌, List, [], map, get_or, Option, None, Some, refl, ◌∙◌, ap, arith, unwrap_or}
use Rattle.std.specs.Option.{option_map}
use Rattle.std.proofs.lemmas.Option.{slice_get-map, get_or_from_slice_get}
use Rattle.text_numbers.specs.Numbers.{number_of}
use Rattle.text_numbers.proofs.NumberLaws.{text_of_number}
use Rattle.use_rules.specs.Facts.{NumbersName}

-- what is made of a text is at the text's number, counted from 1
pub at_number : {X : Type 0} (h : List ℕ → X) (d : X) (ts : List (List ℕ)) (t : List ℕ) → number_of ts t ≢ 0 → get_or (map h ts) (number_of ts t - 1) d ≡ h t
at_number {X} h d ts t some = go (number_of ts t) refl some
  where
    go : (n : ℕ) → number_of ts t ≡ n → n ≢ 0 → get_or (map h ts) (n - 1) d ≡ h t
    go zero is ne = absurd (ne refl)
    go (suc i) is ne =
        let place : suc i - 1 ≡ i = omega arith in
        ap (λ k. get_or (map h ts) k d) place
        ∙ get_or_from_slice_get (map h ts) i (h t) d (slice_get-map h ts i ∙ ap (option_map h) (text_of_number ts t i is))

pub name_is : {X : Type 0} (h : List ℕ → X) (d : X) (ts : List (List ℕ)) (o : Option (List ℕ)) (n : ℕ) → NumbersName ts o n → n ≢ 0 → get_or (map h ts) (n - 1) d ≡ h (unwrap_or o [])
name_is h d ts None n is some = absurd (some is)
name_is h d ts (Some t) n is some = ap (λ k. get_or (map h ts) (k - 1) d) is.0 ∙ at_number h d ts t (λ z. some (is.0 ∙ z))
