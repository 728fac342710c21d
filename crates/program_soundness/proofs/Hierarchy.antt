-- A class is assignable to the classes and the interfaces that look-up goes through.
use Rattle.std.proofs.Common.{◌≡◌, ◌≢◌, ◌⊎◌, inl, inr, ◌<◌, ◌≤◌, ◌+◌, ◌==◌, ◌||◌, ◌&&◌, ℕ, zero, suc, Bool, true, false, not, nat_eq, List, [], ◌∷◌, length, map, Contains, Some, slice_get, flat_map, refl, sym, ap, subst, ◌∙◌, arith}
use Rattle.std.specs.List.{list_all, list_any, range_with_len}
use Rattle.std.specs.Option.{option_map_or}
use Rattle.std.proofs.lemmas.Bool.{cases_lt, eqb-true, eq-eqb, or_cases, and_parts, not-true, true≢false}
use Rattle.std.proofs.lemmas.List.Elements.{Contains-append_cases}
use Rattle.builtin_world.specs.Library.{library}
use Rattle.builtin_world.specs.declared.number.TheConstants.{OBJECT}
use Rattle.code_decode.specs.declared.code.ClassUnit.{ClassUnit}
use Rattle.access_flags.specs.declared.TheConstants.{INTERFACE}
use Rattle.access_flags.specs.Flags.{has}
use Rattle.link_rules.specs.Classes.{NamedClass, classes_of, class_of_unit, class_number, class_has, class_name_at, number_of_file, superclass_of, interfaces_of}
use Rattle.link_rules.specs.Linked.{IsLinked}
use Rattle.link_rules.specs.LinkRules.{link_rules}
use Rattle.link_rules.specs.Supers.{superclasses, superinterfaces, superinterfaces_within, field_order, method_order}
use Rattle.link_rules.proofs.Arrays.{from_flat_map}
use Rattle.link_rules.proofs.Lists.{contains_cases, contains_none, contains_at}
use Rattle.link_rules.proofs.Numbers.{in_library, file_class, is_file, class_count_is}
use Rattle.link_rules.proofs.Upward.{up_none, superclasses_step, superclasses_none}
use Rattle.type_rules.specs.Assignable.{is_class_assignable}
use Rattle.type_rules.specs.Environments.{hierarchy_of}

-- ---- interfaces of classes are interfaces, and below Object

library_interfaces : (us : List ClassUnit) → map (λ c. list_all (λ i. class_has (classes_of us) i INTERFACE) (interfaces_of (classes_of us) c)) (range_with_len 0 29) ≡ map (λ _. true) (range_with_len 0 29)
unfolding library
library_interfaces us = refl

library_objects : (us : List ClassUnit) → map (λ c. not (class_has (classes_of us) c INTERFACE) || nat_eq (superclass_of (classes_of us) c) OBJECT) (range_with_len 0 29) ≡ map (λ _. true) (range_with_len 0 29)
unfolding library
library_objects us = refl

object_super : (us : List ClassUnit) → superclass_of (classes_of us) OBJECT ≡ 0
unfolding library
object_super us = refl

object_interfaces : (us : List ClassUnit) → interfaces_of (classes_of us) OBJECT ≡ []
unfolding library
object_interfaces us = refl

all_are : (test : ℕ → Bool) (xs : List ℕ) (x : ℕ) → list_all test xs ≡ true → Contains xs x → test x ≡ true
all_are test [] x e h = absurd (contains_none x h)
all_are test (y ∷ xs) x e h =
    let parts = and_parts (test y) (list_all test xs) e in
    elim (contains_cases y xs x h) [
      | inl same ↦ subst (λ z. test z ≡ true) same parts.0
      | inr later ↦ all_are test xs x parts.1 later
    ]

from_map_list : {X Y : Type 0} (f : X → Y) (xs : List X) (y : Y) → Contains (map f xs) y → (j : ℕ) × (x : X) × (slice_get xs j ≡ Some x) × (f x ≡ y)
from_map_list f [] y h = absurd (contains_none y h)
from_map_list {X} {Y} f (x ∷ xs) y h = elim (contains_cases (f x) (map f xs) y h) [
  | inl same ↦ (0, x, refl, same)
  | inr later ↦ next (from_map_list f xs y later)
]
  where
    next : (j : ℕ) × (z : X) × (slice_get xs j ≡ Some z) × (f z ≡ y) → (j : ℕ) × (z : X) × (slice_get (x ∷ xs) j ≡ Some z) × (f z ≡ y)
    next g = (suc g.0, g.1, g.2, g.3)

-- past all classes there are no interfaces
none_found : (us : List ClassUnit) (c i : ℕ) → length (classes_of us) < c → Contains (interfaces_of (classes_of us) c) i → ⊥
none_found us c i past h = contains_none i (subst (λ o. Contains (option_map_or (λ (k : NamedClass). map (class_number (classes_of us)) k.interfaces) o []) i) (Rattle.link_rules.proofs.Numbers.past_all (classes_of us) c past) h)

module _ (us : List ClassUnit) (hold : (link_rules us).Hold) where
  interface_named : (c i : ℕ) → c ≤ length (classes_of us) → Contains (interfaces_of (classes_of us) c) i → class_has (classes_of us) i INTERFACE ≡ true
  interface_named c i within h =
      elim (cases_lt 28 c) [
        | inr low ↦ all_are (λ j. class_has (classes_of us) j INTERFACE) (interfaces_of (classes_of us) c) i (in_library 0 29 (λ x. list_all (λ j. class_has (classes_of us) j INTERFACE) (interfaces_of (classes_of us) x)) (λ _. true) (library_interfaces us) c (omega arith) (omega arith)) h
        | inl read ↦ by_file (is_file us c read within)
      ]
    where
      by_file : (k : ℕ) × (u : ClassUnit) × (slice_get us k ≡ Some u) × (c ≡ number_of_file k) → class_has (classes_of us) i INTERFACE ≡ true
      by_file (k, u, at, class) =
          let mine : Contains (map (class_number (classes_of us)) (class_of_unit u).interfaces) i =
          subst (λ o. Contains (option_map_or (λ (x : NamedClass). map (class_number (classes_of us)) x.interfaces) o []) i) (file_class us k u at) (subst (λ x. Contains (interfaces_of (classes_of us) x) i) class h) in
          let (j, name, listed, number) = from_map_list (class_number (classes_of us)) (class_of_unit u).interfaces i mine in
          let (n, index, there, named) = from_map_list (class_name_at u.file.pool) u.file.interfaces name (contains_at (class_of_unit u).interfaces j name listed) in
          subst (λ x. class_has (classes_of us) x INTERFACE ≡ true) (ap (class_number (classes_of us)) named ∙ number) ((hold.1.1.0 k u at).1.1.1.0 n index there)

  pub interfaces_are : (c i : ℕ) → Contains (interfaces_of (classes_of us) c) i → class_has (classes_of us) i INTERFACE ≡ true
  interfaces_are c i h = elim (cases_lt (length (classes_of us)) c) [ inl past ↦ absurd (none_found us c i past h) | inr within ↦ interface_named c i within h ]

  pub superinterfaces_are : (n c i : ℕ) → Contains (superinterfaces_within (classes_of us) n c) i → class_has (classes_of us) i INTERFACE ≡ true
  superinterfaces_are zero c i h = absurd (contains_none i h)
  superinterfaces_are (suc n) c i h =
      let (j, named, above) = from_flat_map (λ x. x ∷ superinterfaces_within (classes_of us) n x) (interfaces_of (classes_of us) c) i h in
      elim (contains_cases j (superinterfaces_within (classes_of us) n j) i above) [
        | inl same ↦ subst (λ x. class_has (classes_of us) x INTERFACE ≡ true) same (interfaces_are c j named)
        | inr later ↦ superinterfaces_are n j i later
      ]

  -- the superclass of an interface is Object
  pub of_interface : (i : ℕ) → i ≤ length (classes_of us) → class_has (classes_of us) i INTERFACE ≡ true → superclass_of (classes_of us) i ≡ OBJECT
  of_interface i within is =
      elim (cases_lt 28 i) [
        | inr low ↦ elim (or_cases (not (class_has (classes_of us) i INTERFACE)) (nat_eq (superclass_of (classes_of us) i) OBJECT) (in_library 0 29 (λ c. not (class_has (classes_of us) c INTERFACE) || nat_eq (superclass_of (classes_of us) c) OBJECT) (λ _. true) (library_objects us) i (omega arith) (omega arith))) [
          | inl plain ↦ absurd (true≢false (sym is ∙ not-true (class_has (classes_of us) i INTERFACE) plain))
          | inr object ↦ eqb-true (superclass_of (classes_of us) i) OBJECT object
        ]
        | inl read ↦ by_file (is_file us i read within)
      ]
    where
      by_file : (k : ℕ) × (u : ClassUnit) × (slice_get us k ≡ Some u) × (i ≡ number_of_file k) → superclass_of (classes_of us) i ≡ OBJECT
      by_file (k, u, at, class) =
          let flag : class_has (classes_of us) (number_of_file k) INTERFACE ≡ true = subst (λ x. class_has (classes_of us) x INTERFACE ≡ true) class is in
          let mine : has u.file.flags INTERFACE ≡ true = subst (λ o. option_map_or (λ (c : NamedClass). has c.flags INTERFACE) o false ≡ true) (file_class us k u at) flag in
          ap (superclass_of (classes_of us)) class ∙ (hold.1.1.0 k u at).1.1.0.1 mine

-- ---- assignability

either_left : (a b : Bool) → a ≡ true → (a || b) ≡ true
either_left true b e = refl
either_left false b e = cc

either_right : (a b : Bool) → b ≡ true → (a || b) ≡ true
either_right true b e = refl
either_right false b e = e

pub found_any : (xs : List ℕ) (d : ℕ) → Contains xs d → list_any (λ e. e == d) xs ≡ true
found_any [] d is = absurd (contains_none d is)
found_any (x ∷ xs) d is = elim (contains_cases x xs d is) [
  | inl same ↦ either_left (x == d) (list_any (λ e. e == d) xs) (eq-eqb x d same)
  | inr later ↦ either_right (x == d) (list_any (λ e. e == d) xs) (found_any xs d later)
]

module _ (us : List ClassUnit) (order : List ℕ) (linked : IsLinked us order) where
  abbrev goes_to : ℕ → ℕ → Bool
  goes_to c d = is_class_assignable (hierarchy_of (classes_of us)) c d

  pub to_object : (c d : ℕ) → d ≡ OBJECT → goes_to c d ≡ true
  to_object c d same = either_left (d == OBJECT) _ (eq-eqb d OBJECT same)

  pub to_interface : (c d : ℕ) → class_has (classes_of us) d INTERFACE ≡ true → goes_to c d ≡ true
  to_interface c d is = either_right (d == OBJECT) _ (either_left (class_has (classes_of us) d INTERFACE) _ is)

  pub object_above : (d : ℕ) → Contains (superclasses (classes_of us) OBJECT) d → d ≡ OBJECT
  object_above d h =
      let count : length (classes_of us) ≡ 28 + length us = class_count_is us in
      elim (contains_cases OBJECT [] d (subst (λ xs. Contains xs d) (superclasses_none (classes_of us) order linked.order OBJECT (object_super us) (λ e. omega (arith, e)) (omega (arith, count))) h)) [
        | inl same ↦ sym same
        | inr none ↦ absurd (contains_none d none)
      ]

  -- no class is above what is none
  pub some_class : (c d : ℕ) → Contains (superclasses (classes_of us) c) d → c ≢ 0
  some_class zero d h = absurd (contains_none d (subst (λ xs. Contains xs d) (up_none (classes_of us) (length (classes_of us))) h))
  some_class (suc c) d h = λ e. omega (arith, e)

  pub to_superclass : (c d : ℕ) → c ≤ length (classes_of us) → Contains (superclasses (classes_of us) c) d → goes_to c d ≡ true
  to_superclass c d within h = by_flag (class_has (classes_of us) c INTERFACE) refl
    where
      by_flag : (b : Bool) → class_has (classes_of us) c INTERFACE ≡ b → goes_to c d ≡ true
      by_flag true is =
          elim (contains_cases c (superclasses (classes_of us) (superclass_of (classes_of us) c)) d (subst (λ xs. Contains xs d) (superclasses_step (classes_of us) order linked.order c (some_class c d h) within) h)) [
            | inl same ↦ to_interface c d (subst (λ x. class_has (classes_of us) x INTERFACE ≡ true) same is)
            | inr up ↦ to_object c d (object_above d (subst (λ x. Contains (superclasses (classes_of us) x) d) (of_interface us linked.rules c within is) up))
          ]
      by_flag false plain =
          either_right (d == OBJECT) _ (either_right (class_has (classes_of us) d INTERFACE) _
          (ap (λ b. not b && list_any (λ e. e == d) (superclasses (classes_of us) c)) plain ∙ found_any (superclasses (classes_of us) c) d h))

  -- a class that look-up of methods goes through
  pub to_looked : (c d : ℕ) → c ≤ length (classes_of us) → Contains (method_order (classes_of us) c) d → goes_to c d ≡ true
  to_looked c d within h = elim (Contains-append_cases (superclasses (classes_of us) c) (flat_map (superinterfaces (classes_of us)) (superclasses (classes_of us) c)) d h) [
    | inl up ↦ to_superclass c d within up
    | inr over ↦ to_interface c d (interface_over over)
  ]
    where
      interface_over : Contains (flat_map (superinterfaces (classes_of us)) (superclasses (classes_of us) c)) d → class_has (classes_of us) d INTERFACE ≡ true
      interface_over over = let (e, up, at) = from_flat_map (superinterfaces (classes_of us)) (superclasses (classes_of us) c) d over in superinterfaces_are us linked.rules (length (classes_of us)) e d at

  -- of fields: what it goes through is a superclass or an interface
  pub field_looked : (c d : ℕ) → Contains (field_order (classes_of us) c) d → Contains (superclasses (classes_of us) c) d ⊎ (class_has (classes_of us) d INTERFACE ≡ true)
  field_looked c d h =
      let (e, up, at) = from_flat_map (λ x. x ∷ superinterfaces (classes_of us) x) (superclasses (classes_of us) c) d h in
      elim (contains_cases e (superinterfaces (classes_of us) e) d at) [
        | inl same ↦ inl (subst (λ x. Contains (superclasses (classes_of us) c) x) same up)
        | inr over ↦ inr (superinterfaces_are us linked.rules (length (classes_of us)) e d over)
      ]

  -- an array has the members of Object alone
  pub object_looked : (d : ℕ) → Contains (method_order (classes_of us) OBJECT) d → d ≡ OBJECT
  object_looked d h = elim (Contains-append_cases (superclasses (classes_of us) OBJECT) (flat_map (superinterfaces (classes_of us)) (superclasses (classes_of us) OBJECT)) d h) [
    | inl up ↦ object_above d up
    | inr over ↦ absurd (none_over over)
  ]
    where
      none_over : Contains (flat_map (superinterfaces (classes_of us)) (superclasses (classes_of us) OBJECT)) d → ⊥
      none_over over =
          let (e, up, at) = from_flat_map (superinterfaces (classes_of us)) (superclasses (classes_of us) OBJECT) d over in
          no_interfaces (length (classes_of us)) (subst (λ x. Contains (superinterfaces (classes_of us) x) d) (object_above e up) at)
        where
          no_interfaces : (n : ℕ) → Contains (superinterfaces_within (classes_of us) n OBJECT) d → ⊥
          no_interfaces zero at = contains_none d at
          no_interfaces (suc n) at = contains_none d (subst (λ xs. Contains (flat_map (λ i. i ∷ superinterfaces_within (classes_of us) n i) xs) d) (object_interfaces us) at)
