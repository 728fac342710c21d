-- Names and numbers of classes.
use Rattle.std.proofs.Common.{◌≡◌, ◌≢◌, ℕ, zero, suc, ◌+◌, ◌<◌, ◌≤◌, Bool, true, List, length, map, take, Option, None, Some, slice_get, inl, inr, refl, sym, ap, ◌∙◌, bytes_eq, nat_eq, arith}
use Rattle.std.specs.List.{position_from, range_with_len}
use Rattle.std.specs.Option.{option_map_or}
use Rattle.std.proofs.lemmas.Bool.{cases_lt, eqb-true}
use Rattle.std.proofs.lemmas.Option.{same_Some, none-some, slice_get_within}
use Rattle.std.proofs.lemmas.Slice.Eq.{bytes_eq-Decides}
use Rattle.builtin_world.specs.Library.{library}
use Rattle.code_decode.specs.declared.code.ClassUnit.{ClassUnit}
use Rattle.link_rules.specs.Classes.{NamedClass, classes_of, class_of_unit, class_number, class_numbered, number_of_file}
use Rattle.link_rules.specs.LinkRules.{link_rules}
use Rattle.link_rules.specs.Laws.{NamesHaveOneNumber}
use Rattle.link_rules.proofs.Lists.{position_at}
use Rattle.link_rules.proofs.Numbers.{in_library, file_class, is_file}

-- the number that the name of a class gives
again : (us : List ClassUnit) → ℕ → ℕ
again us c = option_map_or (λ (k : NamedClass). class_number (classes_of us) k.name) (class_numbered (classes_of us) c) 0

library_names : (us : List ClassUnit) → map (λ c. nat_eq (again us c) c) (range_with_len 1 28) ≡ map (λ _. true) (range_with_len 1 28)
unfolding library again
library_names us = refl

of_library : (us : List ClassUnit) (c : ℕ) → c ≢ 0 → c ≤ 28 → again us c ≡ c
of_library us c ne low =
    eqb-true (again us c) c (in_library 1 28 (λ c. nat_eq (again us c) c) (λ _. true) (library_names us) c (omega (arith, ne)) (omega arith))

no_number : (o : Option ℕ) → option_map_or (λ i. suc i) o 0 ≡ 0 → o ≡ None
no_number None e = refl
no_number (Some i) e = absurd (omega (arith, e))

of_file : (us : List ClassUnit) → (link_rules us).Hold → (k : ℕ) (u : ClassUnit) → slice_get us k ≡ Some u → class_number (classes_of us) (class_of_unit u).name ≡ number_of_file k
of_file us hold k u at =
    let name : List ℕ = (class_of_unit u).name in
    let test : NamedClass → Bool = λ c. bytes_eq c.name name in
    let before : position_from test 0 (take (28 + k) (classes_of us)) ≡ None = no_number _ (hold.1.0 k u at) in
    let itself : bytes_eq name name ≡ true = (bytes_eq-Decides name name).1 refl in
    let here : position_from test 0 (classes_of us) ≡ Some (28 + k) =
    position_at test (classes_of us) (28 + k) (class_of_unit u) (file_class us k u at) itself before in
    ap (λ o. option_map_or (λ i. suc i) o 0) here

pub class_within : (cs : List NamedClass) (c : ℕ) (k : NamedClass) → class_numbered cs c ≡ Some k → (c ≢ 0) × (c ≤ length cs)
class_within cs zero k e = absurd (none-some k e)
class_within cs (suc i) k e = (λ z. omega (arith, z), (let lt : i < length cs = slice_get_within cs i k e in omega arith))

pub one_number : (us : List ClassUnit) → (link_rules us).Hold → NamesHaveOneNumber (classes_of us)
unfolding again
one_number us hold c k at =
    let room : (c ≢ 0) × (c ≤ length (classes_of us)) = class_within (classes_of us) c k at in
    elim (cases_lt 28 c) [
      | inr low ↦ sym (ap (λ o. option_map_or (λ (x : NamedClass). class_number (classes_of us) x.name) o 0) at) ∙ of_library us c room.0 low
      | inl read ↦ by_file (is_file us c read room.1)
    ]
  where
    by_file : (j : ℕ) × (u : ClassUnit) × (slice_get us j ≡ Some u) × (c ≡ number_of_file j) → class_number (classes_of us) k.name ≡ c
    by_file h =
        let mine : class_of_unit h.1 ≡ k = same_Some (class_of_unit h.1) k (sym (file_class us h.0 h.1 h.2) ∙ ap (class_numbered (classes_of us)) (sym h.3) ∙ at) in
        ap (λ (x : NamedClass). class_number (classes_of us) x.name) (sym mine) ∙ of_file us hold h.0 h.1 h.2 ∙ sym h.3
