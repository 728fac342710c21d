-- Numbers of classes: those of the library from 1 to 28, and those of the files after them.
use Rattle.std.proofs.Common.{◌≡◌, ◌≢◌, ℕ, zero, suc, ◌+◌, ◌-◌, ◌<◌, ◌≤◌, Bool, true, List, ◌++◌, length, map, Option, None, Some, slice_get, get_or, inl, inr, refl, ap, subst, ◌∙◌, All, nat_lt, length-append, arith}
use Rattle.std.specs.List.{position_from, range_with_len}
use Rattle.std.specs.Option.{option_map, option_map_or}
use Rattle.std.proofs.lemmas.Bool.{ltb-true, cases_lt}
use Rattle.std.proofs.lemmas.Option.{slice_get-map, slice_get_within, slice_get_cases, slice_get_past}
use Rattle.std.proofs.lemmas.List.FromFn.{get_or-range_with_len}
use Rattle.std.proofs.lemmas.List.{length-map}
use Rattle.builtin_world.specs.Library.{library}
use Rattle.builtin_world.specs.declared.number.TheConstants.{OBJECT}
use Rattle.builtin_world.proofs.Tables.{All-from_map}
use Rattle.code_decode.specs.declared.code.ClassUnit.{ClassUnit}
use Rattle.link_rules.specs.Classes.{NamedClass, classes_of, class_of_unit, library_class, class_number, class_numbered, number_of_file, superclass_of}
use Rattle.link_rules.specs.LinkRules.{link_rules}
use Rattle.link_rules.proofs.Lists.{Found, found_at, slice_get-behind}

-- a number from 1 to 28 passes a test that the numbers pass one by one
pub in_library : (from many : ℕ) (f g : ℕ → Bool) → map f (range_with_len from many) ≡ map g (range_with_len from many) → (c : ℕ) → from ≤ c → c < from + many → f c ≡ g c
in_library from many f g same c low high =
    let all : All (λ x. f x ≡ g x) (range_with_len from many) = All-from_map f g (range_with_len from many) same in
    let at : f (get_or (range_with_len from many) (c - from) c) ≡ g (get_or (range_with_len from many) (c - from) c) =
    all (c - from) c (omega (arith, Rattle.std.proofs.lemmas.List.FromFn.length-range_with_len from many)) in
    let is : get_or (range_with_len from many) (c - from) c ≡ c =
    get_or-range_with_len from many (c - from) c (omega arith) ∙ (omega arith) in
    subst (λ x. f x ≡ g x) is at

pub class_count_is : (us : List ClassUnit) → length (classes_of us) ≡ 28 + length us
unfolding library
class_count_is us =
    length-append (map library_class library) (map class_of_unit us) ∙ ap (λ n. 28 + n) (length-map us class_of_unit)

pub file_class : (us : List ClassUnit) (k : ℕ) (u : ClassUnit) → slice_get us k ≡ Some u → class_numbered (classes_of us) (number_of_file k) ≡ Some (class_of_unit u)
unfolding library
file_class us k u at =
    let behind : slice_get (map library_class library ++ map class_of_unit us) (28 + k) ≡ slice_get (map class_of_unit us) k =
    slice_get-behind (map library_class library) (map class_of_unit us) k in
    behind ∙ slice_get-map class_of_unit us k ∙ ap (option_map class_of_unit) at

-- a class past the library is that of a file
pub is_file : (us : List ClassUnit) (c : ℕ) → 28 < c → c ≤ length (classes_of us) → (k : ℕ) × (u : ClassUnit) × (slice_get us k ≡ Some u) × (c ≡ number_of_file k)
is_file us c low high =
    let count : length (classes_of us) ≡ 28 + length us = class_count_is us in
    elim (slice_get_cases us (c - 29)).1 [
      | inl h ↦ (c - 29, h.0, h.2, omega arith)
      | inr h ↦ absurd (let past : length us ≤ c - 29 = h.0 in omega arith)
    ]

position_within : {X : Type 0} (test : X → Bool) (xs : List X) (o : Option ℕ) → position_from test 0 xs ≡ o → option_map_or (λ i. suc i) o 0 ≤ length xs
position_within test xs None e = omega arith
position_within test xs (Some i) e =
    let f : Found test xs i = found_at test xs i e in
    let lt : i < length xs = slice_get_within xs i f.item f.there in
    omega arith

pub class_number_within : (cs : List NamedClass) (name : List ℕ) → class_number cs name ≤ length cs
class_number_within cs name = position_within (λ (c : NamedClass). Rattle.std.specs.Prelude.bytes_eq c.name name) cs _ refl

named_within : (cs : List NamedClass) (o : Option (List ℕ)) → option_map_or (class_number cs) o 0 ≤ length cs
named_within cs None = omega arith
named_within cs (Some name) = class_number_within cs name

super_within : (cs : List NamedClass) (o : Option NamedClass) → option_map_or (λ (k : NamedClass). option_map_or (class_number cs) k.super 0) o 0 ≤ length cs
super_within cs None = omega arith
super_within cs (Some k) = named_within cs k.super

pub superclass_within : (cs : List NamedClass) (c : ℕ) → superclass_of cs c ≤ length cs
superclass_within cs c = super_within cs (class_numbered cs c)

library_supers : (us : List ClassUnit) → map (λ c. nat_lt 0 (superclass_of (classes_of us) c)) (range_with_len 2 27) ≡ map (λ _. true) (range_with_len 2 27)
unfolding library
library_supers us = refl

-- Object alone has no superclass
pub only_object : (us : List ClassUnit) (c : ℕ) → (link_rules us).Hold → c ≢ 0 → c ≤ length (classes_of us) → superclass_of (classes_of us) c ≡ 0 → c ≡ OBJECT
only_object us c hold some within none =
    elim (cases_lt 28 c) [
      | inl file ↦ absurd (of_file (is_file us c file within))
      | inr built_in ↦ elim (cases_lt c 2) [
        | inl one ↦ omega (arith, some)
        | inr more ↦ absurd (of_library more built_in)
      ]
    ]
  where
    of_library : 2 ≤ c → c ≤ 28 → ⊥
    of_library low high =
        let lt : 0 < superclass_of (classes_of us) c =
        ltb-true 0 (superclass_of (classes_of us) c) (in_library 2 27 (λ c. nat_lt 0 (superclass_of (classes_of us) c)) (λ _. true) (library_supers us) c low (omega arith)) in
        omega (arith, none)

    of_file : (k : ℕ) × (u : ClassUnit) × (slice_get us k ≡ Some u) × (c ≡ number_of_file k) → ⊥
    of_file h =
        (hold.1.1.0 h.0 h.1 h.2).0 (subst (λ x. superclass_of (classes_of us) x ≡ 0) h.3 none)

-- a number past those of all classes is that of none
pub past_all : (cs : List NamedClass) (c : ℕ) → length cs < c → class_numbered cs c ≡ None
past_all cs zero lt = absurd (omega (arith, lt))
past_all cs (suc i) lt = slice_get_past cs i (omega (arith, lt))

pub past_super : (cs : List NamedClass) (c : ℕ) → length cs < c → superclass_of cs c ≡ 0
past_super cs c lt = ap (λ o. option_map_or (λ (k : NamedClass). option_map_or (class_number cs) k.super 0) o 0) (past_all cs c lt)
