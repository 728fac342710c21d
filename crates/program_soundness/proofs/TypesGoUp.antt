-- An object may be used where a type is wanted to which one that it may be used as is assignable.
use Rattle.std.proofs.Common.{◌≡◌, ◌≢◌, ◌<◌, ◌≤◌, ◌+◌, ◌==◌, ◌||◌, ◌&&◌, ℕ, Bool, true, false, cond, nat_eq, nat_lt, nat_le, List, length, Contains, flat_map, inl, inr, refl, sym, ap, subst, ◌∙◌, arith}
use Rattle.std.specs.List.{list_any}
use Rattle.std.specs.Option.{option_map_or}
use Rattle.std.proofs.lemmas.Bool.{and_parts, cases_lt, eqb-true, leb-true, or_cases, true≢false}
use Rattle.std.proofs.lemmas.List.Elements.{Contains-append_cases, Contains-append_left}
use Rattle.access_flags.specs.declared.TheConstants.{INTERFACE}
use Rattle.access_flags.specs.Flags.{has}
use Rattle.builtin_world.specs.declared.number.TheConstants.{COUNT, OBJECT}
use Rattle.code_decode.specs.declared.code.ClassUnit.{ClassUnit}
use Rattle.link_types.specs.declared.types.ElementType.{ElementType}
use Rattle.link_types.specs.declared.types.ElementType.TheVariants as elements
use Rattle.link_types.specs.declared.types.ObjectType.{ObjectType}
use Rattle.link_types.specs.declared.types.ObjectType.TheVariants.{Class, Other, Array}
use Rattle.link_types.specs.Subtypes.{is_element_below, is_object_element}
use Rattle.link_rules.specs.Classes.{NamedClass, class_has, classes_of, superclass_of}
use Rattle.link_rules.specs.Linked.{IsClassNumber}
use Rattle.link_rules.specs.Names.{is_class_number, program_names, type_numbered}
use Rattle.link_rules.specs.Supers.{is_class_below, method_order, superclasses, superinterfaces}
use Rattle.link_rules.proofs.Arrays.{from_flat_map}
use Rattle.link_rules.proofs.Numbers.{class_count_is, past_all, superclass_within}
use Rattle.link_rules.proofs.Subclasses.{IsRight, right_number, right_upward}
use Rattle.link_rules.proofs.Upward.{above_is_class, above_itself, superclasses_step}
use Rattle.type_rules.specs.Assignable.{is_object_assignable}
use Rattle.type_rules.specs.Environments.{hierarchy_of}
use Rattle.java_rows.specs.Program.{is_of_file}
use Rattle.row_soundness.specs.Runs.{MayStandFor, seen_type}
use Rattle.row_soundness.proofs.Seen.{assignable_seen}
use Rattle.program_soundness.specs.SoundPrograms.{IsSound}
use Rattle.program_soundness.proofs.Hierarchy.{found_any, of_interface, superinterfaces_are}
use Rattle.program_soundness.proofs.BelowClasses.{any_there}
use Rattle.program_soundness.proofs.ClassLaws.{goes_below, raised, to_top}

either : (a b : Bool) → b ≡ true → (a || b) ≡ true
either true b e = refl
either false b e = e

-- what has a flag is a class
pub flagged : (cs : List NamedClass) (c flag : ℕ) → class_has cs c flag ≡ true → IsClassNumber cs c
flagged cs c flag is = record {
  some = λ e. true≢false (sym (subst (λ x. class_has cs x flag ≡ true) e is));
  within = elim (cases_lt (length cs) c) [
    | inr within ↦ within
    | inl past ↦ absurd (true≢false (sym is ∙ ap (λ o. option_map_or (λ (k : NamedClass). has k.flags flag) o false) (past_all cs c past)))
  ];
}

module _ (us : List ClassUnit) (order : List ℕ) (sound : IsSound us order) where
  object_is : IsClassNumber (classes_of us) OBJECT
  object_is = let count : length (classes_of us) ≡ 28 + length us = class_count_is us in record { some = λ e. omega (arith, e); within = omega (arith, count) }

  -- what a class is below is a class
  pub class_above : (c d : ℕ) → IsClassNumber (classes_of us) c → is_class_below (classes_of us) c d ≡ true → IsClassNumber (classes_of us) d
  class_above c d is below = elim (or_cases (d == OBJECT) (list_any (λ e. e == d) (method_order (classes_of us) c)) below) [
    | inl top ↦ subst (IsClassNumber (classes_of us)) (sym (eqb-true d OBJECT top)) object_is
    | inr listed ↦ elim (Contains-append_cases (superclasses (classes_of us) c) (flat_map (superinterfaces (classes_of us)) (superclasses (classes_of us) c)) d (any_there (method_order (classes_of us) c) d listed)) [
      | inl up ↦ above_is_class (classes_of us) order sound.linked.order c is.some is.within d up
      | inr over ↦ (let (e, up, at) = from_flat_map (superinterfaces (classes_of us)) (superclasses (classes_of us) c) d over in
          flagged (classes_of us) d INTERFACE (superinterfaces_are us sound.linked.rules (length (classes_of us)) e d at))
    ]
  ]

  abbrev Right : ObjectType → Type 0
  Right t = IsRight us order sound.linked t

  element_above : (m n : ℕ) (x y : ElementType) → Right (Array m x) → is_element_below (is_class_below (classes_of us)) x y ≡ true → Right (Array n y)
  element_above m n (elements.Class c) (elements.Class d) right below = class_above c d right below
  element_above m n (elements.Other o) (elements.Class d) right below = subst (IsClassNumber (classes_of us)) (sym (eqb-true d OBJECT below)) object_is
  element_above m n x (elements.Class d) right below = cc
  element_above m n x y right below = tt

  object_element : (n : ℕ) (y : ElementType) → is_object_element y ≡ true → Right (Array n y)
  object_element n (elements.Class d) is = subst (IsClassNumber (classes_of us)) (sym (eqb-true d OBJECT is)) object_is
  object_element n y is = cc

  array_above : (m n : ℕ) (x y : ElementType) → Right (Array m x) → (b : Bool) → cond b (is_element_below (is_class_below (classes_of us)) x y) (nat_lt n m && is_object_element y) ≡ true → Right (Array n y)
  array_above m n x y right true below = element_above m n x y right below
  array_above m n x y right false below = object_element n y (and_parts (nat_lt n m) (is_object_element y) below).1

  -- what a type of classes of the program is below is one too
  pub right_above : (t u : ObjectType) → Right t → goes_below us t u ≡ true → Right u
  right_above (Class c) (Class d) right below = class_above c d right below
  right_above (Other m) (Class d) right below = subst (IsClassNumber (classes_of us)) (sym (eqb-true d OBJECT below)) object_is
  right_above (Array m x) (Class d) right below = subst (IsClassNumber (classes_of us)) (sym (eqb-true d OBJECT below)) object_is
  right_above (Array m x) (Array n y) right below = array_above m n x y right (nat_eq m n) below
  right_above t (Other n) right below = tt
  right_above (Class c) (Array n y) right below = cc
  right_above (Other c) (Array n y) right below = cc

  pub upward : (t u w : ObjectType) → Right t → goes_below us t u ≡ true → goes_below us u w ≡ true → goes_below us t w ≡ true
  upward t u w right one another =
      let middle : Right u = right_above t u right one in
      right_upward us order sound.linked t u w right middle (right_above u w middle another) one another

  pub goes_up : (c : ℕ) (s t : ObjectType) → is_class_number (program_names us) c ≡ true → is_object_assignable (hierarchy_of (classes_of us)) s t ≡ true → MayStandFor us c s → MayStandFor us c t
  goes_up c s t is goes stands =
      upward (type_numbered (program_names us) c) (seen_type us s) (seen_type us t) (right_number us order sound.linked c is) stands (assignable_seen us s t goes)

  -- a class is below its superclass
  super_below : (c : ℕ) → c ≢ 0 → c ≤ length (classes_of us) → superclass_of (classes_of us) c ≢ 0 → is_class_below (classes_of us) c (superclass_of (classes_of us) c) ≡ true
  super_below c some within super =
      either (superclass_of (classes_of us) c == OBJECT) _
      (found_any (method_order (classes_of us) c) (superclass_of (classes_of us) c)
      (Contains-append_left (superclasses (classes_of us) c) (flat_map (superinterfaces (classes_of us)) (superclasses (classes_of us) c)) (superclass_of (classes_of us) c)
      (subst (λ xs. Contains xs (superclass_of (classes_of us) c)) (sym (superclasses_step (classes_of us) order sound.linked.order c some within))
      (Rattle.link_rules.proofs.Lists.contains_tail c (superclasses (classes_of us) (superclass_of (classes_of us) c)) (superclass_of (classes_of us) c)
      (above_itself (classes_of us) order sound.linked.order (superclass_of (classes_of us) c) super (superclass_within (classes_of us) c))))))

  -- an object of a class of a file may be used as one of its superclass
  pub goes_above : (c d : ℕ) → is_of_file us c ≡ true → is_class_number (program_names us) d ≡ true → MayStandFor us d (Class c) → MayStandFor us d (Class (superclass_of (classes_of us) c))
  goes_above c d file is stands = by_flag (class_has (classes_of us) c INTERFACE) refl
    where
      low : 28 < c
      low = Rattle.std.proofs.lemmas.Bool.ltb-true COUNT c (and_parts (nat_lt COUNT c) (nat_le c (length (classes_of us))) file).0

      within : c ≤ length (classes_of us)
      within = leb-true c (length (classes_of us)) (and_parts (nat_lt COUNT c) (nat_le c (length (classes_of us))) file).1

      some : c ≢ 0
      some e = omega (arith, low, e)

      has_super : superclass_of (classes_of us) c ≢ 0
      has_super none = let top : c ≡ OBJECT = Rattle.link_rules.proofs.Numbers.only_object us c sound.linked.rules some within none in omega (arith, low, top)

      by_flag : (b : Bool) → class_has (classes_of us) c INTERFACE ≡ b → MayStandFor us d (Class (superclass_of (classes_of us) c))
      by_flag true interface =
          raised us (type_numbered (program_names us) d) (Class (superclass_of (classes_of us) c))
          (subst (λ x. goes_below us (type_numbered (program_names us) d) (Class x) ≡ true) (sym (of_interface us sound.linked.rules c within interface)) (to_top us (type_numbered (program_names us) d)))
      by_flag false plain =
          let here : goes_below us (type_numbered (program_names us) d) (Class c) ≡ true = sym (ap (λ b. goes_below us (type_numbered (program_names us) d) (Class (cond b OBJECT c))) plain) ∙ stands in
          raised us (type_numbered (program_names us) d) (Class (superclass_of (classes_of us) c))
          (upward (type_numbered (program_names us) d) (Class c) (Class (superclass_of (classes_of us) c)) (right_number us order sound.linked d is) here (super_below c some within has_super))
