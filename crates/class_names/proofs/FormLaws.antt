-- The shortest form of a code unit is one of its forms.
use Rattle.std.proofs.Common.{◌≡◌, ℕ, ◌+◌, ◌/◌, ◌%◌, ◌^◌, ◌<◌, ◌≤◌, true, false, leb, List, [], ◌∷◌, ◌++◌, map, ◌&&◌, ◌⊎◌, inl, inr, refl, ap, arith}
use Rattle.std.specs.List.{AllByRecursion, concat}
use Rattle.std.proofs.lemmas.Bool.{cases_Bool, and_from, le-leb, leb-true}
use Rattle.class_names.specs.ModifiedUtf8.{IsForm, unit_of, AreForms}
use Rattle.class_names.specs.ShortestForms.{form_of, encoded}

IsFormOf : ℕ → List ℕ → Type 0
IsFormOf unit form = IsForm form × (unit_of form ≡ unit)

between : (low n high : ℕ) → low ≤ n → n ≤ high → (leb low n && leb n high) ≡ true
between low n high below above = and_from (leb low n) (leb n high) (le-leb low n below) (le-leb n high above)

two_bytes : (u : ℕ) → u ≤ 2047 → IsFormOf u ((192 + u / 64) ∷ (128 + u % 64) ∷ [])
unfolding IsFormOf
two_bytes u small =
    ((between 192 (192 + u / 64) 223 (omega arith) (omega arith), between 128 (128 + u % 64) 191 (omega arith) (omega arith)), omega arith)

three_bytes : (u : ℕ) → u < 2 ^ 16 → IsFormOf u ((224 + u / 4096) ∷ (128 + u / 64 % 64) ∷ (128 + u % 64) ∷ [])
unfolding IsFormOf
three_bytes u small =
    ((between 224 (224 + u / 4096) 239 (omega arith) (omega arith), between 128 (128 + u / 64 % 64) 191 (omega arith) (omega arith), between 128 (128 + u % 64) 191 (omega arith) (omega arith)), omega arith)

form_by : (u : ℕ) → u < 2 ^ 16 → ((leb 1 u && leb u 127) ≡ true) ⊎ ((leb 1 u && leb u 127) ≡ false) → (leb u 2047 ≡ true) ⊎ (leb u 2047 ≡ false) → IsFormOf u (form_of u)
unfolding IsFormOf
form_by u fits (inl one) short = rw one (one, refl)
form_by u fits (inr more) (inl two) = rw (more, two) (let P = two_bytes u (leb-true u 2047 two) in P)
form_by u fits (inr more) (inr three) = rw (more, three) (let P = three_bytes u fits in P)

form_is : (u : ℕ) → u < 2 ^ 16 → IsFormOf u (form_of u)
form_is u fits = form_by u fits (cases_Bool (leb 1 u && leb u 127)) (cases_Bool (leb u 2047))

all_forms : (units : List ℕ) → AllByRecursion (λ u. u < 2 ^ 16) units → AllByRecursion IsForm (map form_of units)
unfolding IsFormOf
all_forms [] all = tt
all_forms (u ∷ units) all = ((form_is u all.0).0, all_forms units all.1)

forms_joined : (units : List ℕ) → encoded units ≡ concat (map form_of units)
forms_joined [] = refl
forms_joined (u ∷ units) = ap (λ (bytes : List ℕ). form_of u ++ bytes) (forms_joined units)

pub encoded_formed : (units : List ℕ) → AllByRecursion (λ u. u < 2 ^ 16) units → AreForms (encoded units) (map form_of units)
encoded_formed units all = record { each = all_forms units all; joined = forms_joined units }

first_and_rest : (a b : ℕ) (xs ys : List ℕ) → a ≡ b → xs ≡ ys → a ∷ xs ≡ b ∷ ys
first_and_rest a b xs ys first rest = cc

pub units_again : (units : List ℕ) → AllByRecursion (λ u. u < 2 ^ 16) units → map unit_of (map form_of units) ≡ units
unfolding IsFormOf
units_again [] all = refl
units_again (u ∷ units) all = first_and_rest (unit_of (form_of u)) u _ units (form_is u all.0).1 (units_again units all.1)
