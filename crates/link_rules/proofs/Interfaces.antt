-- Interfaces of linked classes are there, and Object is their superclass.
use Rattle.std.proofs.Common.{◌≡◌, ◌≢◌, ℕ, suc, ◌+◌, ◌≤◌, ◌||◌, true, false, not, nat_eq, List, [], ◌∷◌, length, map, Contains, Some, slice_get, inl, inr, refl, sym, ap, subst, ◌∙◌, arith}
use Rattle.std.specs.List.{list_all, range_with_len}
use Rattle.std.specs.Option.{option_map_or}
use Rattle.std.proofs.lemmas.Bool.{cases_lt, eqb-true, or_cases, and_parts, not-true, true≢false}
use Rattle.builtin_world.specs.Library.{library}
use Rattle.builtin_world.specs.declared.number.TheConstants.{OBJECT}
use Rattle.code_decode.specs.declared.code.ClassUnit.{ClassUnit}
use Rattle.access_flags.specs.Flags.{has}
use Rattle.link_rules.specs.Classes.{NamedClass, classes_of, class_of_unit, class_number, class_has, class_name_at, number_of_file, superclass_of, interfaces_of}
use Rattle.link_rules.specs.Supers.{is_class_below}
use Rattle.link_rules.specs.LinkRules.{link_rules}
use Rattle.link_rules.specs.Linked.{IsLinked}
use Rattle.link_rules.specs.Laws.{ClassesAreOrdered, BelowMeansAbove}
use Rattle.link_rules.proofs.Lists.{contains_head, contains_tail, contains_cases, contains_none}
use Rattle.link_rules.proofs.Numbers.{in_library, file_class, is_file, class_count_is, class_number_within}
use Rattle.link_rules.proofs.Above.{ordered, means_above, only_object_above}

-- ---- the library

library_interfaces : (us : List ClassUnit) → map (λ c. list_all (λ i. nat_eq i 6) (interfaces_of (classes_of us) c)) (range_with_len 0 29) ≡ map (λ _. true) (range_with_len 0 29)
unfolding library
library_interfaces us = refl

library_objects : (us : List ClassUnit) → map (λ c. not (class_has (classes_of us) c 512) || nat_eq (superclass_of (classes_of us) c) 1) (range_with_len 0 29) ≡ map (λ _. true) (range_with_len 0 29)
unfolding library
library_objects us = refl

runnable_super : (us : List ClassUnit) → superclass_of (classes_of us) 6 ≡ 1
unfolding library
runnable_super us = refl

object_super : (us : List ClassUnit) → superclass_of (classes_of us) 1 ≡ 0
unfolding library
object_super us = refl

object_interfaces : (us : List ClassUnit) → interfaces_of (classes_of us) 1 ≡ []
unfolding library
object_interfaces us = refl

all_are : (xs : List ℕ) (x : ℕ) → list_all (λ i. nat_eq i 6) xs ≡ true → Contains xs x → x ≡ 6
all_are [] x e h = absurd (contains_none x h)
all_are (y ∷ xs) x e h =
    let parts : (nat_eq y 6 ≡ true) × (list_all (λ i. nat_eq i 6) xs ≡ true) = and_parts (nat_eq y 6) (list_all (λ i. nat_eq i 6) xs) e in
    elim (contains_cases y xs x h) [
      | inl same ↦ sym same ∙ eqb-true y 6 parts.0
      | inr later ↦ all_are xs x parts.1 later
    ]

-- ---- the files

from_map : {X Y : Type 0} (f : X → Y) (xs : List X) (y : Y) → Contains (map f xs) y → (j : ℕ) × (x : X) × (slice_get xs j ≡ Some x) × (f x ≡ y)
from_map f [] y h = absurd (contains_none y h)
from_map {X} {Y} f (x ∷ xs) y h = elim (contains_cases (f x) (map f xs) y h) [
  | inl same ↦ (0, x, refl, same)
  | inr later ↦ next (from_map f xs y later)
]
  where
    next : (j : ℕ) × (z : X) × (slice_get xs j ≡ Some z) × (f z ≡ y) → (j : ℕ) × (z : X) × (slice_get (x ∷ xs) j ≡ Some z) × (f z ≡ y)
    next g = (suc g.0, g.1, g.2, g.3)

module _ (us : List ClassUnit) (hold : (link_rules us).Hold) where
  -- the superclass of an interface is Object
  of_interface : (i : ℕ) → i ≢ 0 → i ≤ length (classes_of us) → class_has (classes_of us) i 512 ≡ true → superclass_of (classes_of us) i ≡ 1
  of_interface i ne within is =
      elim (cases_lt 28 i) [
        | inr low ↦ elim (or_cases (not (class_has (classes_of us) i 512)) (nat_eq (superclass_of (classes_of us) i) 1) (in_library 0 29 (λ c. not (class_has (classes_of us) c 512) || nat_eq (superclass_of (classes_of us) c) 1) (λ _. true) (library_objects us) i (omega arith) (omega arith))) [
          | inl plain ↦ absurd (true≢false (sym is ∙ not-true (class_has (classes_of us) i 512) plain))
          | inr object ↦ eqb-true (superclass_of (classes_of us) i) 1 object
        ]
        | inl read ↦ by_file (is_file us i read within)
      ]
    where
      by_file : (k : ℕ) × (u : ClassUnit) × (slice_get us k ≡ Some u) × (i ≡ number_of_file k) → superclass_of (classes_of us) i ≡ 1
      by_file h =
          let flag : class_has (classes_of us) (number_of_file h.0) 512 ≡ true = subst (λ x. class_has (classes_of us) x 512 ≡ true) h.3 is in
          let mine : has h.1.file.flags 512 ≡ true = subst (λ o. option_map_or (λ (c : NamedClass). has c.flags 512) o false ≡ true) (file_class us h.0 h.1 h.2) flag in
          ap (superclass_of (classes_of us)) h.3 ∙ (hold.1.1.0 h.0 h.1 h.2).1.1.0.1 mine

  interfaces_are : (c i : ℕ) → c ≢ 0 → c ≤ length (classes_of us) → Contains (interfaces_of (classes_of us) c) i → (i ≢ 0) × (i ≤ length (classes_of us)) × (superclass_of (classes_of us) i ≡ OBJECT)
  interfaces_are c i ne within h =
      elim (cases_lt 28 c) [
        | inr low ↦ of_library (all_are (interfaces_of (classes_of us) c) i (in_library 0 29 (λ x. list_all (λ j. nat_eq j 6) (interfaces_of (classes_of us) x)) (λ _. true) (library_interfaces us) c (omega arith) (omega arith)) h)
        | inl read ↦ by_file (is_file us c read within)
      ]
    where
      of_library : i ≡ 6 → (i ≢ 0) × (i ≤ length (classes_of us)) × (superclass_of (classes_of us) i ≡ OBJECT)
      of_library same =
          let count : length (classes_of us) ≡ 28 + length us = class_count_is us in
          ((λ e. omega (arith, e)), omega arith, ap (superclass_of (classes_of us)) same ∙ runnable_super us)

      by_file : (k : ℕ) × (u : ClassUnit) × (slice_get us k ≡ Some u) × (c ≡ number_of_file k) → (i ≢ 0) × (i ≤ length (classes_of us)) × (superclass_of (classes_of us) i ≡ OBJECT)
      by_file g = named (from_map (class_name_at g.1.file.pool) g.1.file.interfaces (listed.1) listed_at)
        where
          mine : Contains (map (class_number (classes_of us)) (class_of_unit g.1).interfaces) i
          mine = subst (λ o. Contains (option_map_or (λ (x : NamedClass). map (class_number (classes_of us)) x.interfaces) o []) i) (file_class us g.0 g.1 g.2) (subst (λ x. Contains (interfaces_of (classes_of us) x) i) g.3 h)

          listed : (j : ℕ) × (x : List ℕ) × (slice_get (class_of_unit g.1).interfaces j ≡ Some x) × (class_number (classes_of us) x ≡ i)
          listed = from_map (class_number (classes_of us)) (class_of_unit g.1).interfaces i mine

          listed_at : Contains (map (class_name_at g.1.file.pool) g.1.file.interfaces) (listed.1)
          listed_at = Rattle.link_rules.proofs.Lists.contains_at (class_of_unit g.1).interfaces listed.0 listed.1 listed.2

          named : (j at : ℕ) × (slice_get g.1.file.interfaces j ≡ Some at) × (class_name_at g.1.file.pool at ≡ listed.1) → (i ≢ 0) × (i ≤ length (classes_of us)) × (superclass_of (classes_of us) i ≡ OBJECT)
          named f =
              let number : class_number (classes_of us) (class_name_at g.1.file.pool f.1) ≡ i = ap (class_number (classes_of us)) f.3 ∙ listed.3 in
              let there : i ≢ 0 = subst (λ x. x ≢ 0) number ((hold.1.1.0 g.0 g.1 g.2).1.0 f.0 f.1 f.2) in
              let room : i ≤ length (classes_of us) = subst (λ x. x ≤ length (classes_of us)) number (class_number_within (classes_of us) (class_name_at g.1.file.pool f.1)) in
              let interface : class_has (classes_of us) i 512 ≡ true = subst (λ x. class_has (classes_of us) x 512 ≡ true) number ((hold.1.1.0 g.0 g.1 g.2).1.1.1.0 f.0 f.1 f.2) in
              (there, room, of_interface i there room interface)

object_within : (us : List ClassUnit) → 1 ≤ length (classes_of us)
object_within us = (let count : length (classes_of us) ≡ 28 + length us = class_count_is us in omega arith)

pub classes_ordered : (us : List ClassUnit) (order : List ℕ) → IsLinked us order → ClassesAreOrdered (classes_of us)
classes_ordered us order linked = ordered (classes_of us) order linked.order (interfaces_are us linked.rules) (object_super us) (object_interfaces us) (object_within us)

pub below_means_above : (us : List ClassUnit) (order : List ℕ) → IsLinked us order → BelowMeansAbove (classes_of us)
below_means_above us order linked = means_above (classes_of us) order linked.order (interfaces_are us linked.rules) (object_super us) (object_interfaces us) (object_within us)

pub only_object : (us : List ClassUnit) (order : List ℕ) → IsLinked us order → (e : ℕ) → e ≢ 0 → is_class_below (classes_of us) OBJECT e ≡ true → e ≡ OBJECT
only_object us order linked = only_object_above (classes_of us) order linked.order (interfaces_are us linked.rules) (object_super us) (object_interfaces us) (object_within us)
