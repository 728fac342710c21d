-- In a linked program the exceptions of the machine are below Throwable, so each method of a built-in class fits.
use Rattle.std.proofs.Common.{◌≡◌, ◌<◌, ◌≤◌, ◌+◌, ◌-◌, ◌==◌, ◌&&◌, ◌||◌, not, ℕ, suc, Bool, true, false, None, List, [], ◌∷◌, length, refl, ap, ◌∙◌, arith, slice_get, nat_le, nat_lt, inl, inr, if◌then◌else◌}
use Rattle.std.specs.Prelude.{Contains, unwrap_or, option_map}
use Rattle.std.specs.List.{list_any, flat_map}
use Rattle.std.proofs.lemmas.Bool.{and_parts, leb-true, ltb-true, le-leb, eq-eqb}
use Rattle.std.proofs.lemmas.List.Folds.{list_any-append}
use Rattle.access_flags.specs.declared.TheConstants.{INTERFACE}
use Rattle.builtin_world.specs.Laws.{is_throwable}
use Rattle.builtin_world.specs.Library.{library}
use Rattle.builtin_world.specs.declared.Native.{Native}
use Rattle.builtin_world.specs.declared.Native.TheVariants.{ThrowableInit, ThrowableInitMessage, ThrowableGetMessage}
use Rattle.builtin_world.specs.declared.number.TheConstants.{THROWABLE}
use Rattle.code_decode.specs.declared.code.ClassUnit.{ClassUnit}
use Rattle.link_types.specs.declared.types.ObjectType.TheVariants.{Class}
use Rattle.link_types.specs.Subtypes.{is_object_below}
use Rattle.link_rules.specs.Classes.{classes_of, class_has}
use Rattle.link_rules.specs.Linked.{IsLinked}
use Rattle.link_rules.specs.Names.{program_names, type_named, type_numbered, is_class_number}
use Rattle.link_rules.specs.Supers.{superclasses, superinterfaces, is_class_below}
use Rattle.link_rules.proofs.Lists.{contains_cases, contains_none}
use Rattle.link_rules.proofs.Numbers.{class_count_is, in_library}
use Rattle.link_rules.proofs.Throwables.{throwables}
use Rattle.type_rules.specs.Assignable.{is_object_assignable}
use Rattle.type_rules.specs.Environments.{hierarchy_of}
use Rattle.java_rows.specs.Program.{is_subclass}
use Rattle.row_soundness.specs.Natives.{IsNativeOf, IsThrowable}
use Rattle.builtin_facts.specs.Facts.{FitsTable, IsDeclaredBy, NativesFit}
use Rattle.builtin_facts.proofs.NativeLaws.{numbers, natives}

either : (a b : Bool) → a ≡ true → (a || b) ≡ true
either true b e = refl
either false b e = cc

found : (xs : List ℕ) (d : ℕ) → Contains xs d → list_any (λ e. e == d) xs ≡ true
found [] d is = absurd (contains_none d is)
found (x ∷ xs) d is = elim (contains_cases x xs d is) [
  | inl same ↦ either (x == d) (list_any (λ e. e == d) xs) (eq-eqb x d same)
  | inr later ↦ second (x == d) (list_any (λ e. e == d) xs) (found xs d later)
]
  where
    second : (a b : Bool) → b ≡ true → (a || b) ≡ true
    second true b e = refl
    second false b e = e

both : (a b : Bool) → a ≡ true → b ≡ true → (a && b) ≡ true
both true b e f = f
both false b e f = cc

-- no exception is an interface
no_interface : (us : List ClassUnit) (c : ℕ) → 8 ≤ c → c < 28 → class_has (classes_of us) c INTERFACE ≡ false
unfolding library
no_interface us c low high = in_library 8 20 (λ d. class_has (classes_of us) d INTERFACE) (λ d. false) refl c low (omega (arith, high))

module _ (us : List ClassUnit) (order : List ℕ) (linked : IsLinked us order) where
  type_of : (c : ℕ) → 1 ≤ c → c ≤ 28 → type_numbered (program_names us) c ≡ Class c
  type_of c low high =
      let count : length (classes_of us) ≡ 28 + length us = class_count_is us in
      ap (λ b. unwrap_or (option_map (type_named (program_names us)) (if b then None else slice_get (program_names us).arrays (c - suc (length (classes_of us))))) (Class c)) (le-leb c (length (classes_of us)) (omega (arith, count, high)))

  pub throwable : (c : ℕ) → is_throwable c ≡ true → IsThrowable us c
  throwable c is = (subclass, assignable)
    where
      low : 8 ≤ c
      low = leb-true 8 c (and_parts (nat_le 8 c) (nat_lt c 28) is).0

      high : c < 28
      high = ltb-true c 28 (and_parts (nat_le 8 c) (nat_lt c 28) is).1

      above : list_any (λ e. e == THROWABLE) (superclasses (classes_of us) c) ≡ true
      above = found (superclasses (classes_of us) c) THROWABLE (throwables us order linked c low high)

      below : is_class_below (classes_of us) c THROWABLE ≡ true
      below =
          list_any-append (λ e. e == THROWABLE) (superclasses (classes_of us) c) (flat_map (superinterfaces (classes_of us)) (superclasses (classes_of us) c))
          ∙ either (list_any (λ e. e == THROWABLE) (superclasses (classes_of us) c)) (list_any (λ e. e == THROWABLE) (flat_map (superinterfaces (classes_of us)) (superclasses (classes_of us) c))) above

      subclass : is_subclass us c THROWABLE ≡ true
      subclass =
          both (is_class_number (program_names us) c) _ (numbers us c (omega (arith, low)) (omega (arith, high)))
          (both (is_class_number (program_names us) THROWABLE) _ (numbers us THROWABLE (omega arith) (omega arith))
          (ap (λ t. is_object_below (is_class_below (classes_of us)) t (type_numbered (program_names us) THROWABLE)) (type_of c (omega (arith, low)) (omega (arith, high)))
          ∙ (ap (λ t. is_object_below (is_class_below (classes_of us)) (Class c) t) (type_of THROWABLE (omega arith) (omega arith)) ∙ below)))

      assignable : is_object_assignable (hierarchy_of (classes_of us)) (Class c) (Class THROWABLE) ≡ true
      assignable = by_flags (class_has (classes_of us) THROWABLE INTERFACE) (class_has (classes_of us) c INTERFACE) (no_interface us c low high)
        where
          by_flags : (high_is low_is : Bool) → low_is ≡ false → (high_is || (not low_is && list_any (λ e. e == THROWABLE) (superclasses (classes_of us) c))) ≡ true
          by_flags true low_is e = refl
          by_flags false false e = above
          by_flags false true e = cc

pub fit : NativesFit
fit us order linked id n is = record { takes = row.takes; gives = row.gives; static = row.static; of = declared n id.class row.declared }
  where
    row : FitsTable us n id
    row = natives us id n is

    declared : (n : Native) (c : ℕ) → IsDeclaredBy us n c → IsNativeOf us n c
    declared ThrowableInit c e = throwable us order linked c e
    declared ThrowableInitMessage c e = throwable us order linked c e
    declared ThrowableGetMessage c e = throwable us order linked c e
    declared n c e = e
