-- Classes and array classes are ordered.
use Rattle.std.proofs.Common.{◌≡◌, ℕ, suc, ◌+◌, ◌-◌, ◌<◌, ◌≤◌, ◌&&◌, Bool, true, false, cond, nat_eq, nat_le, length, None, Some, unwrap_or, option_map, inl, inr, refl, sym, ap, subst, ◌∙◌, arith, List, slice_get}
use Rattle.std.proofs.lemmas.Bool.{and_parts, and_from, cases_lt, eqb-false, le-leb, lt-leb, leb-true}
use Rattle.std.proofs.lemmas.Option.{slice_get_cases}
use Rattle.class_names.specs.declared.kind.BaseKind.{BaseKind}
use Rattle.class_names.specs.declared.kind.BaseKind.TheVariants as bases
use Rattle.class_names.specs.declared.kind.Kind.{Kind}
use Rattle.class_names.specs.declared.kind.Kind.TheVariants as kinds
use Rattle.code_decode.specs.declared.code.ClassUnit.{ClassUnit}
use Rattle.link_types.specs.declared.types.ElementType.TheVariants as elements
use Rattle.link_types.specs.declared.types.ObjectType.{ObjectType}
use Rattle.link_types.specs.declared.types.ObjectType.TheVariants.{Class, Other}
use Rattle.link_types.specs.Subtypes.{is_object_below}
use Rattle.link_rules.specs.Classes.{classes_of, class_number}
use Rattle.link_rules.specs.Supers.{is_class_below}
use Rattle.link_rules.specs.Descriptors.{named_kind}
use Rattle.link_rules.specs.Names.{program_names, class_count, other_number, element_type_of, kind_object, type_named, type_numbered, is_class_number, is_subclass}
use Rattle.link_rules.specs.Linked.{IsLinked, IsClassNumber}
use Rattle.link_rules.specs.Laws.{ClassesAreOrdered, SubclassesAreOrdered}
use Rattle.link_rules.proofs.Numbers.{class_number_within, class_count_is}
use Rattle.link_rules.proofs.Interfaces.{classes_ordered, only_object}
use Rattle.link_rules.proofs.Subtypes.{IsElement, IsType, type_itself, type_top, type_upward}

module _ (us : List ClassUnit) (order : List ℕ) (linked : IsLinked us order) where
  pub classes : ClassesAreOrdered (classes_of us)
  classes = classes_ordered us order linked

  pub itself : (c : ℕ) → IsClassNumber (classes_of us) c → is_class_below (classes_of us) c c ≡ true
  itself c is = classes.itself c is.some is.within

  pub only_top : (e : ℕ) → IsClassNumber (classes_of us) e → is_class_below (classes_of us) 1 e ≡ true → e ≡ 1
  only_top e is h = only_object us order linked e is.some h

  pub upward : (c d e : ℕ) → IsClassNumber (classes_of us) c → IsClassNumber (classes_of us) d → IsClassNumber (classes_of us) e → is_class_below (classes_of us) c d ≡ true → is_class_below (classes_of us) d e ≡ true → is_class_below (classes_of us) c e ≡ true
  upward c d e a b f h k = classes.upward c d e a.some a.within b.some b.within f.some h k

  -- the classes in a type are classes of the program
  abbrev pub IsRight : ObjectType → Type 0
  IsRight t = IsType (is_class_below (classes_of us)) (IsClassNumber (classes_of us)) itself classes.top only_top upward t

  pub right_upward : (s t u : ObjectType) → IsRight s → IsRight t → IsRight u → is_object_below (is_class_below (classes_of us)) s t ≡ true → is_object_below (is_class_below (classes_of us)) t u ≡ true
      → is_object_below (is_class_below (classes_of us)) s u ≡ true
  right_upward s t u a b c h k = type_upward (is_class_below (classes_of us)) (IsClassNumber (classes_of us)) itself classes.top only_top upward s t u a b c h k

  -- ---- the types of class numbers

  of_name : (name : List ℕ) → nat_eq (class_number (classes_of us) name) 0 ≡ false → IsClassNumber (classes_of us) (class_number (classes_of us) name)
  of_name name e = record { some = eqb-false (class_number (classes_of us) name) 0 e; within = class_number_within (classes_of us) name }

  right_element : (base : BaseKind) → IsElement (is_class_below (classes_of us)) (IsClassNumber (classes_of us)) itself classes.top only_top upward (element_type_of (program_names us) base)
  right_element bases.Int = tt
  right_element bases.Byte = tt
  right_element bases.Char = tt
  right_element bases.Short = tt
  right_element bases.Boolean = tt
  right_element bases.Long = tt
  right_element bases.Float = tt
  right_element bases.Double = tt
  right_element (bases.Class name) = go (nat_eq (class_number (classes_of us) name) 0) refl
    where
      go : (b : Bool) → nat_eq (class_number (classes_of us) name) 0 ≡ b → IsElement (is_class_below (classes_of us)) (IsClassNumber (classes_of us)) itself classes.top only_top upward (cond b (elements.Other (other_number (program_names us) name)) (elements.Class (class_number (classes_of us) name)))
      go true e = tt
      go false e = of_name name e

  right_kind : (name : List ℕ) (kind : Kind) → IsType (is_class_below (classes_of us)) (IsClassNumber (classes_of us)) itself classes.top only_top upward (kind_object (program_names us) name kind)
  right_kind name (kinds.Array n base) = right_element base
  right_kind name (kinds.Base base) = go (nat_eq (class_number (classes_of us) name) 0) refl
    where
      go : (b : Bool) → nat_eq (class_number (classes_of us) name) 0 ≡ b → IsType (is_class_below (classes_of us)) (IsClassNumber (classes_of us)) itself classes.top only_top upward (cond b (Other (other_number (program_names us) name)) (Class (class_number (classes_of us) name)))
      go true e = tt
      go false e = of_name name e

  pub right_number : (c : ℕ) → is_class_number (program_names us) c ≡ true → IsType (is_class_below (classes_of us)) (IsClassNumber (classes_of us)) itself classes.top only_top upward (type_numbered (program_names us) c)
  right_number c is =
      elim (cases_lt (length (classes_of us)) c) [
        | inr plain ↦ of_class plain
        | inl array ↦ elim (slice_get_cases (program_names us).arrays (c - suc (length (classes_of us)))).1 [
          | inl h ↦ of_array array h.0 h.2
          | inr h ↦ absurd (let past : length (program_names us).arrays ≤ c - suc (length (classes_of us)) = h.0 in omega (arith, high, array))
        ]
      ]
    where
      low : 1 ≤ c
      low = leb-true 1 c (and_parts (nat_le 1 c) (nat_le c (class_count (program_names us))) is).0

      high : c ≤ length (classes_of us) + length (program_names us).arrays
      high = leb-true c (class_count (program_names us)) (and_parts (nat_le 1 c) (nat_le c (class_count (program_names us))) is).1

      with_flag : Bool → ObjectType
      with_flag b = unwrap_or (option_map (type_named (program_names us)) (cond b None (slice_get (program_names us).arrays (c - suc (length (classes_of us)))))) (Class c)

      of_class : c ≤ length (classes_of us) → IsType (is_class_below (classes_of us)) (IsClassNumber (classes_of us)) itself classes.top only_top upward (type_numbered (program_names us) c)
      of_class plain =
          subst (λ t. IsType (is_class_below (classes_of us)) (IsClassNumber (classes_of us)) itself classes.top only_top upward t) (sym (ap with_flag (le-leb c (length (classes_of us)) plain)))
          (record { some = λ e. omega (arith, low, e); within = plain })

      of_array : length (classes_of us) < c → (name : List ℕ) → slice_get (program_names us).arrays (c - suc (length (classes_of us))) ≡ Some name → IsType (is_class_below (classes_of us)) (IsClassNumber (classes_of us)) itself classes.top only_top upward (type_numbered (program_names us) c)
      of_array array name at =
          subst (λ t. IsType (is_class_below (classes_of us)) (IsClassNumber (classes_of us)) itself classes.top only_top upward t)
          (sym (ap with_flag (lt-leb c (length (classes_of us)) array) ∙ ap (λ o. unwrap_or (option_map (type_named (program_names us)) o) (Class c)) at))
          (right_kind name (named_kind name))

  -- ---- the law

  object_number : is_class_number (program_names us) 1 ≡ true
  object_number = (let count : length (classes_of us) ≡ 28 + length us = class_count_is us in le-leb 1 (class_count (program_names us)) (omega arith))

  object_type : type_numbered (program_names us) 1 ≡ Class 1
  object_type =
      (let count : length (classes_of us) ≡ 28 + length us = class_count_is us in
      ap (λ b. unwrap_or (option_map (type_named (program_names us)) (cond b None (slice_get (program_names us).arrays (1 - suc (length (classes_of us)))))) (Class 1)) (le-leb 1 (length (classes_of us)) (omega arith)))

  is_below : (c d : ℕ) → is_class_number (program_names us) c ≡ true → is_class_number (program_names us) d ≡ true
      → is_object_below (is_class_below (classes_of us)) (type_numbered (program_names us) c) (type_numbered (program_names us) d) ≡ true → is_subclass (program_names us) c d ≡ true
  is_below c d one other h = and_from (is_class_number (program_names us) c) _ one (and_from (is_class_number (program_names us) d) _ other h)

  parts : (c d : ℕ) → is_subclass (program_names us) c d ≡ true
      → (is_class_number (program_names us) c ≡ true) × ((is_class_number (program_names us) d ≡ true) × (is_object_below (is_class_below (classes_of us)) (type_numbered (program_names us) c) (type_numbered (program_names us) d) ≡ true))
  parts c d h =
      let first : (is_class_number (program_names us) c ≡ true) × ((is_class_number (program_names us) d && is_object_below (is_class_below (classes_of us)) (type_numbered (program_names us) c) (type_numbered (program_names us) d)) ≡ true) =
      and_parts (is_class_number (program_names us) c) (is_class_number (program_names us) d && is_object_below (is_class_below (classes_of us)) (type_numbered (program_names us) c) (type_numbered (program_names us) d)) h in
      (first.0, and_parts (is_class_number (program_names us) d) (is_object_below (is_class_below (classes_of us)) (type_numbered (program_names us) c) (type_numbered (program_names us) d)) first.1)

  pub subclasses_ordered : SubclassesAreOrdered (program_names us)
  subclasses_ordered = record {
    itself = λ c is. is_below c c is is (type_itself (is_class_below (classes_of us)) (IsClassNumber (classes_of us)) itself classes.top only_top upward (type_numbered (program_names us) c) (right_number c is));
    top = λ c is. is_below c 1 is object_number
        (subst (λ t. is_object_below (is_class_below (classes_of us)) (type_numbered (program_names us) c) t ≡ true) (sym object_type)
        (type_top (is_class_below (classes_of us)) (IsClassNumber (classes_of us)) itself classes.top only_top upward (type_numbered (program_names us) c)));
    upward = λ c d e h k.
        let f : (is_class_number (program_names us) c ≡ true) × ((is_class_number (program_names us) d ≡ true) × (is_object_below (is_class_below (classes_of us)) (type_numbered (program_names us) c) (type_numbered (program_names us) d) ≡ true)) = parts c d h in
        let g : (is_class_number (program_names us) d ≡ true) × ((is_class_number (program_names us) e ≡ true) × (is_object_below (is_class_below (classes_of us)) (type_numbered (program_names us) d) (type_numbered (program_names us) e) ≡ true)) = parts d e k in
        is_below c e f.0 g.1.0
        (type_upward (is_class_below (classes_of us)) (IsClassNumber (classes_of us)) itself classes.top only_top upward
        (type_numbered (program_names us) c) (type_numbered (program_names us) d) (type_numbered (program_names us) e)
        (right_number c f.0) (right_number d f.1.0) (right_number e g.1.0) f.1.1 g.1.1);
  }
