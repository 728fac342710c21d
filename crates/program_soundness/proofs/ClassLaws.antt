-- Classes go up, and their numbers are words.
use Rattle.std.proofs.Common.{◌≡◌, ◌<◌, ◌≤◌, ◌+◌, ◌-◌, ◌*◌, ◌^◌, ◌==◌, ◌&&◌, ◌||◌, ℕ, zero, suc, Bool, true, false, cond, nat_eq, nat_le, nat_lt, Option, None, Some, List, ◌++◌, length, Contains, flat_map, refl, sym, ap, subst, ◌∙◌, arith, if◌then◌else◌}
use Rattle.std.specs.Prelude.{unwrap_or, option_map, option_and_then, sum_by}
use Rattle.std.specs.List.{list_any, range_with_len}
use Rattle.std.specs.Option.{option_map_or}
use Rattle.std.proofs.lemmas.Bool.{and_parts, leb-true}
use Rattle.std.proofs.lemmas.Option.{same_Some, none-some}
use Rattle.std.proofs.lemmas.List.Elements.{Contains-append_left}
use Rattle.access_flags.specs.declared.TheConstants.{INTERFACE, PRIVATE, ABSTRACT}
use Rattle.access_flags.specs.Flags.{has}
use Rattle.builtin_facts.proofs.NativeLaws.{numbers as built_in}
use Rattle.builtin_facts.proofs.ThrowableLaws.{throwable as built_in_throwable}
use Rattle.builtin_world.specs.Library.{library}
use Rattle.builtin_world.specs.declared.number.TheConstants.{COUNT, OBJECT, THROWABLE}
use Rattle.code_decode.specs.declared.code.ClassUnit.{ClassUnit}
use Rattle.link_types.specs.declared.operands.MethodId.{MethodId}
use Rattle.link_types.specs.declared.types.ElementType.{ElementType}
use Rattle.link_types.specs.declared.types.ElementType.TheVariants as elements
use Rattle.link_types.specs.declared.types.ObjectType.{ObjectType}
use Rattle.link_types.specs.declared.types.ObjectType.TheVariants.{Class, Other, Array}
use Rattle.link_types.specs.Subtypes.{is_object_below, is_element_below}
use Rattle.link_rules.specs.Classes.{NamedMember, class_has, classes_of}
use Rattle.link_rules.specs.FixedObjects.{class_object_size, first_free, system_out_object}
use Rattle.link_rules.specs.Layout.{static_words}
use Rattle.link_rules.specs.Members.{Declared, method_id, selected, signature_of}
use Rattle.link_rules.specs.Methods.{implemented, method_named, select_member, selection_start}
use Rattle.link_rules.specs.Names.{array_numbered, class_count, is_class_number, program_names, type_named, type_numbered}
use Rattle.link_rules.specs.Supers.{is_class_below, superclasses, superinterfaces}
use Rattle.link_rules.proofs.Looked.{selected_fits}
use Rattle.link_rules.proofs.Numbers.{class_count_is}
use Rattle.link_rules.proofs.Objects.{range_more}
use Rattle.link_rules.proofs.Subclasses.{subclasses_ordered}
use Rattle.type_rules.specs.Environments.{hierarchy_of}
use Rattle.java_rows.specs.Program.{is_subclass, method_has, select}
use Rattle.row_soundness.specs.Runs.{MayStandFor, seen_element, seen_type}
use Rattle.program_soundness.specs.SoundPrograms.{IsSound}
use Rattle.program_soundness.proofs.ClassNumbers.{type_of_class}
use Rattle.program_soundness.proofs.Hierarchy.{found_any, object_above}
use Rattle.program_soundness.proofs.Methods.{both_true}
use Rattle.program_soundness.specs.ClassFacts.{ClassesGoUp, NumbersAreWords}

pub throwable_is_class : (us : List ClassUnit) → class_has (classes_of us) THROWABLE INTERFACE ≡ false
unfolding library
throwable_is_class us = refl

module _ (us : List ClassUnit) where
  abbrev pub goes_below : ObjectType → ObjectType → Bool
  goes_below = is_object_below (is_class_below (classes_of us))

  pub to_top : (t : ObjectType) → goes_below t (Class OBJECT) ≡ true
  to_top (Class c) = refl
  to_top (Other m) = refl
  to_top (Array n x) = refl

  element_top : (x : ElementType) (d : ℕ) → is_element_below (is_class_below (classes_of us)) x (elements.Class d) ≡ true → is_element_below (is_class_below (classes_of us)) x (elements.Class OBJECT) ≡ true
  element_top (elements.Class c) d e = refl
  element_top (elements.Other m) d e = refl
  element_top x d e = cc

  raised_array : (m n : ℕ) (y x : ElementType) → goes_below (Array m y) (Array n x) ≡ true → goes_below (Array m y) (Array n (seen_element us x)) ≡ true
  raised_array m n y (elements.Class d) e = by_flag ((hierarchy_of (classes_of us)).is_interface d)
    where
      by_dimensions : (b : Bool) → cond b (is_element_below (is_class_below (classes_of us)) y (elements.Class d)) (nat_lt n m && (d == OBJECT)) ≡ true
          → cond b (is_element_below (is_class_below (classes_of us)) y (elements.Class OBJECT)) (nat_lt n m && true) ≡ true
      by_dimensions true is = element_top y d is
      by_dimensions false is = both_true (nat_lt n m) true (and_parts (nat_lt n m) (d == OBJECT) is).0 refl

      by_flag : (b : Bool) → goes_below (Array m y) (Array n (elements.Class (if b then OBJECT else d))) ≡ true
      by_flag true = by_dimensions (nat_eq m n) e
      by_flag false = e
  raised_array m n y x e = e

  -- what is below a type is below it as it is seen
  pub raised : (t u : ObjectType) → goes_below t u ≡ true → goes_below t (seen_type us u) ≡ true
  raised t (Class d) e = by_flag ((hierarchy_of (classes_of us)).is_interface d)
    where
      by_flag : (b : Bool) → goes_below t (Class (if b then OBJECT else d)) ≡ true
      by_flag true = to_top t
      by_flag false = e
  raised t (Other m) e = e
  raised (Class c) (Array n x) e = cc
  raised (Other c) (Array n x) e = cc
  raised (Array m y) (Array n x) e = raised_array m n y x e

  pub subclass_parts : (c d : ℕ) → is_subclass us c d ≡ true → goes_below (type_numbered (program_names us) c) (type_numbered (program_names us) d) ≡ true
  subclass_parts c d e =
      (and_parts (is_class_number (program_names us) d) _ (and_parts (is_class_number (program_names us) c) _ e).1).1

  throwable_type : type_numbered (program_names us) THROWABLE ≡ Class THROWABLE
  throwable_type = let count : length (classes_of us) ≡ 28 + length us = class_count_is us in type_of_class (program_names us) THROWABLE (omega (arith, count))

  seen_throwable : seen_type us (Class THROWABLE) ≡ Class THROWABLE
  seen_throwable = ap (λ b. Class (if b then OBJECT else THROWABLE)) (throwable_is_class us)

  module _ (order : List ℕ) (sound : IsSound us order) where
    by_selected : (c : ℕ) (a : NamedMember) (found : MethodId) (o : Option Declared) → selected (classes_of us) (selection_start (program_names us) c) (signature_of a) ≡ o → option_map method_id (implemented o) ≡ Some found → MayStandFor us c (Class found.class)
    by_selected c a found None same e = cc
    by_selected c a found (Some d) same e = by_flag (has d.member.flags ABSTRACT) e
      where
        above : Contains (superclasses (classes_of us) (selection_start (program_names us) c)) d.class
        above = (selected_fits (classes_of us) (selection_start (program_names us) c) (signature_of a) d same).above

        by_start : (o : Option (List ℕ)) → array_numbered (program_names us) c ≡ o → Contains (superclasses (classes_of us) (option_map_or (λ _. OBJECT) o c)) d.class
            → goes_below (unwrap_or (option_map (type_named (program_names us)) o) (Class c)) (seen_type us (Class d.class)) ≡ true
        by_start (Some name) is up =
            raised (type_named (program_names us) name) (Class d.class) (subst (λ x. goes_below (type_named (program_names us) name) (Class x) ≡ true) (sym (object_above us order sound.linked d.class up)) (to_top (type_named (program_names us) name)))
        by_start None is up = raised (Class c) (Class d.class) (by_object (d.class == OBJECT))
          where
            listed : list_any (λ e. e == d.class) (superclasses (classes_of us) c ++ flat_map (superinterfaces (classes_of us)) (superclasses (classes_of us) c)) ≡ true
            listed = found_any (superclasses (classes_of us) c ++ flat_map (superinterfaces (classes_of us)) (superclasses (classes_of us) c)) d.class (Contains-append_left (superclasses (classes_of us) c) (flat_map (superinterfaces (classes_of us)) (superclasses (classes_of us) c)) d.class up)

            by_object : (b : Bool) → (b || list_any (λ e. e == d.class) (superclasses (classes_of us) c ++ flat_map (superinterfaces (classes_of us)) (superclasses (classes_of us) c))) ≡ true
            by_object true = refl
            by_object false = listed

        by_flag : (b : Bool) → option_map method_id (cond b None (Some d)) ≡ Some found → MayStandFor us c (Class found.class)
        by_flag true is = cc
        by_flag false is =
            subst (λ (x : MethodId). MayStandFor us c (Class x.class)) (same_Some (method_id d) found is) (by_start (array_numbered (program_names us) c) refl above)

    goes_selected : (c : ℕ) (id found : MethodId) → (method_has us id PRIVATE ≡ true → MayStandFor us c (Class id.class)) → select us c id ≡ Some found → MayStandFor us c (Class found.class)
    goes_selected c id found private e = by_number (is_class_number (program_names us) c) e
      where
        by_private : (a : NamedMember) → method_named (classes_of us) id ≡ Some a → (b : Bool) → has a.flags PRIVATE ≡ b
            → cond b (Some id) (option_map method_id (implemented (selected (classes_of us) (selection_start (program_names us) c) (signature_of a)))) ≡ Some found → MayStandFor us c (Class found.class)
        by_private a named true is found_is =
            subst (λ (x : MethodId). MayStandFor us c (Class x.class)) (same_Some id found found_is) (private (ap (λ (o : Option NamedMember). option_map_or (λ (m : NamedMember). has m.flags PRIVATE) o false) named ∙ is))
        by_private a named false is found_is = by_selected c a found (selected (classes_of us) (selection_start (program_names us) c) (signature_of a)) refl found_is

        by_member : (o : Option NamedMember) → method_named (classes_of us) id ≡ o → option_and_then (select_member (program_names us) c id) o ≡ Some found → MayStandFor us c (Class found.class)
        by_member None named is = absurd (none-some found is)
        by_member (Some a) named is = by_private a named (has a.flags PRIVATE) refl is

        by_number : (b : Bool) → cond b (option_and_then (select_member (program_names us) c id) (method_named (classes_of us) id)) None ≡ Some found → MayStandFor us c (Class found.class)
        by_number true is = by_member (method_named (classes_of us) id) refl is
        by_number false is = absurd (none-some found is)

    pub classes_go_up : ClassesGoUp us
    classes_go_up = record {
      own = λ c is. raised (type_numbered (program_names us) c) (type_numbered (program_names us) c) (subclass_parts c c ((subclasses_ordered us order sound.linked).itself c is));
      exceptions = λ c is. (built_in_throwable us order sound.linked c is).0;
      throwable = λ c is below.
          both_true (is_class_number (program_names us) c) _ is
          (both_true (is_class_number (program_names us) THROWABLE) _ (built_in us THROWABLE (omega arith) (omega arith))
          (ap (goes_below (type_numbered (program_names us) c)) throwable_type ∙ (sym (ap (goes_below (type_numbered (program_names us) c)) seen_throwable) ∙ below)));
      below = λ c d is. raised (type_numbered (program_names us) c) (type_numbered (program_names us) d) (subclass_parts c d is);
      below_throwable = λ c is. ap (goes_below (type_numbered (program_names us) c)) seen_throwable ∙ (sym (ap (goes_below (type_numbered (program_names us) c)) throwable_type) ∙ subclass_parts c THROWABLE is);
      selected = λ c id found is private e. goes_selected c id found private e;
      top = λ c. raised (type_numbered (program_names us) c) (Class OBJECT) (to_top (type_numbered (program_names us) c));
    }

    -- ---- numbers

    two_each : (n : ℕ) → 2 * n ≤ sum_by (class_object_size (program_names us).classes) (range_with_len 1 n)
    two_each zero = omega arith
    two_each (suc n) =
        let before : 2 * n ≤ sum_by (class_object_size (program_names us).classes) (range_with_len 1 n) = two_each n in
        let more : sum_by (class_object_size (program_names us).classes) (range_with_len 1 (suc n)) ≡ sum_by (class_object_size (program_names us).classes) (range_with_len 1 n) + (2 + static_words (program_names us).classes (1 + n)) =
        range_more 1 n (class_object_size (program_names us).classes) in
        omega (arith, before, more)

    pub numbers_are_words : first_free (program_names us) ≤ 2 ^ 32 → NumbersAreWords us
    numbers_are_words room = record {
      numbers = λ c is.
          let within : c ≤ class_count (program_names us) = leb-true c (class_count (program_names us)) (and_parts (nat_le 1 c) (nat_le c (class_count (program_names us))) is).1 in
          omega (arith, within, few);
      files = λ c is.
          let within : c ≤ length (classes_of us) = leb-true c (length (classes_of us)) (and_parts (nat_lt COUNT c) (nat_le c (length (classes_of us))) is).1 in
          let count : length (classes_of us) ≡ 28 + length us = class_count_is us in
          let most : length us ≤ 1024 = sound.linked.rules.0 in
          omega (arith, within, count, most);
    }
      where
        few : class_count (program_names us) < 2 ^ 32
        few =
            let n : ℕ = class_count (program_names us) in
            let same : n + 1 - 1 ≡ n = omega arith in
            let out : system_out_object (program_names us) ≡ 1 + sum_by (class_object_size (program_names us).classes) (range_with_len 1 n) = ap (λ k. 1 + sum_by (class_object_size (program_names us).classes) (range_with_len 1 k)) same in
            let each : 2 * n ≤ sum_by (class_object_size (program_names us).classes) (range_with_len 1 n) = two_each n in
            let end : first_free (program_names us) ≡ system_out_object (program_names us) + 2 + 5 + 2 + 3 * length (program_names us).strings = refl in
            omega (arith, out, each, end, room)
