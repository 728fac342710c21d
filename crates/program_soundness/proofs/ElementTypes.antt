-- The types of the elements of arrays of references: those of a lower array are below those of a higher one.
use Rattle.std.proofs.Common.{◌≡◌, ◌<◌, ◌-◌, ◌==◌, ◌||◌, ◌&&◌, ℕ, zero, suc, Bool, true, false, cond, nat_lt, Option, Some, List, length, Contains, flat_map, inl, inr, refl, sym, ap, subst, ◌∙◌, arith}
use Rattle.std.specs.List.{list_any}
use Rattle.std.proofs.lemmas.Bool.{and_from, and_parts, eq-eqb, eqb-true, lt-ltb, ltb-true, ne_eqb, or_cases, true≢false}
use Rattle.std.proofs.lemmas.Option.{same_Some}
use Rattle.std.proofs.lemmas.List.Elements.{Contains-append_cases}
use Rattle.access_flags.specs.declared.TheConstants.{INTERFACE}
use Rattle.builtin_world.specs.declared.number.TheConstants.{OBJECT}
use Rattle.code_decode.specs.declared.code.ClassUnit.{ClassUnit}
use Rattle.link_types.specs.declared.types.ElementType.{ElementType}
use Rattle.link_types.specs.declared.types.ElementType.TheVariants as elements
use Rattle.link_types.specs.declared.types.ObjectType.{ObjectType}
use Rattle.link_types.specs.declared.types.ObjectType.TheVariants.{Class, Other, Array}
use Rattle.link_types.specs.Subtypes.{is_element_below, is_object_element}
use Rattle.link_rules.specs.Classes.{class_has, classes_of, superclass_of}
use Rattle.link_rules.specs.Linked.{IsClassNumber}
use Rattle.link_rules.specs.Supers.{is_class_below, method_order, superclasses, superinterfaces}
use Rattle.link_rules.proofs.Arrays.{from_flat_map}
use Rattle.link_rules.proofs.Lists.{contains_cases}
use Rattle.link_rules.proofs.Upward.{superclasses_step}
use Rattle.type_rules.specs.declared.types.VerificationType.TheVariants.{Object}
use Rattle.type_rules.specs.FrameAfter.{type_of_element}
use Rattle.type_rules.specs.Wants.{is_array_of_references, is_class_element}
use Rattle.row_soundness.specs.Knowledge.{element_reference, element_type}
use Rattle.row_soundness.specs.Runs.{seen_class, seen_element, seen_type}
use Rattle.program_soundness.specs.SoundPrograms.{IsSound}
use Rattle.program_soundness.proofs.Hierarchy.{object_above, of_interface, superinterfaces_are}
use Rattle.program_soundness.proofs.BelowClasses.{any_there}
use Rattle.program_soundness.proofs.ClassLaws.{goes_below, to_top}
use Rattle.program_soundness.proofs.TypesGoUp.{flagged}

-- the type of the elements of an array of one dimension
abbrev inner_type : ElementType → Option ObjectType
inner_type x = element_reference (type_of_element x)

-- of an array whose elements are arrays
abbrev outer_type : ℕ → ElementType → Option ObjectType
outer_type d x = Some (Array (d - 1) x)

by_dimensions : (d : ℕ) (x : ElementType) (b : Bool) → (d == 1) ≡ b → element_type (Array d x) ≡ cond b (inner_type x) (outer_type d x)
by_dimensions d x true one = ap (λ t. element_reference (cond t (type_of_element x) (Object (Array (d - 1) x)))) one
by_dimensions d x false more = ap (λ t. element_reference (cond t (type_of_element x) (Object (Array (d - 1) x)))) more

pub of_one : (d : ℕ) (x : ElementType) → (d == 1) ≡ true → element_type (Array d x) ≡ inner_type x
of_one d x one = by_dimensions d x true one

pub of_more : (d : ℕ) (x : ElementType) → (d == 1) ≡ false → element_type (Array d x) ≡ Some (Array (d - 1) x)
of_more d x more = by_dimensions d x false more

module _ (us : List ClassUnit) where
  inner_seen : (x : ElementType) (a : ObjectType) → inner_type x ≡ Some a → inner_type (seen_element us x) ≡ Some (seen_type us a)
  inner_seen (elements.Class c) a e = ap (λ t. Some (seen_type us t)) (same_Some (Class c) a e)
  inner_seen (elements.Other n) a e = ap (λ t. Some (seen_type us t)) (same_Some (Other n) a e)
  inner_seen x a e = cc

  -- what the elements of an array are, where interfaces are taken as Object
  pub elements_seen : (t a : ObjectType) → element_type t ≡ Some a → element_type (seen_type us t) ≡ Some (seen_type us a)
  elements_seen (Class c) a e = cc
  elements_seen (Other n) a e = cc
  elements_seen (Array d x) a e = by_one (d == 1) refl
    where
      by_one : (b : Bool) → (d == 1) ≡ b → element_type (Array d (seen_element us x)) ≡ Some (seen_type us a)
      by_one true one = of_one d (seen_element us x) one ∙ inner_seen x a (sym (of_one d x one) ∙ e)
      by_one false more = of_more d (seen_element us x) more ∙ ap (λ t. Some (seen_type us t)) (same_Some (Array (d - 1) x) a (sym (of_more d x more) ∙ e))

  -- ---- elements go up with their arrays

  inner_goes : (y x : ElementType) (a b : ObjectType) → is_element_below (is_class_below (classes_of us)) y x ≡ true → inner_type y ≡ Some a → inner_type x ≡ Some b → goes_below us a b ≡ true
  inner_goes (elements.Class c) (elements.Class d) a b e f g = subst (λ t. goes_below us t b ≡ true) (same_Some (Class c) a f) (subst (λ t. goes_below us (Class c) t ≡ true) (same_Some (Class d) b g) e)
  inner_goes (elements.Other c) (elements.Class d) a b e f g = subst (λ t. goes_below us t b ≡ true) (same_Some (Other c) a f) (subst (λ t. goes_below us (Other c) t ≡ true) (same_Some (Class d) b g) e)
  inner_goes (elements.Other c) (elements.Other d) a b e f g = subst (λ t. goes_below us t b ≡ true) (same_Some (Other c) a f) (subst (λ t. goes_below us (Other c) t ≡ true) (same_Some (Other d) b g) e)
  inner_goes y x a b e f g = cc

  inner_object : (x : ElementType) (a b : ObjectType) → is_object_element x ≡ true → inner_type x ≡ Some b → goes_below us a b ≡ true
  inner_object (elements.Class d) a b e f =
      subst (λ t. goes_below us a t ≡ true) (same_Some (Class d) b f) (subst (λ n. goes_below us a (Class n) ≡ true) (sym (eqb-true d OBJECT e)) (to_top us a))
  inner_object x a b e f = cc

  same_dimensions : (m n : ℕ) (y x : ElementType) → m ≡ n → is_element_below (is_class_below (classes_of us)) y x ≡ true → goes_below us (Array m y) (Array n x) ≡ true
  same_dimensions m n y x same h = subst (λ b. cond b (is_element_below (is_class_below (classes_of us)) y x) (nat_lt n m && is_object_element x) ≡ true) (sym (eq-eqb m n same)) h

  fewer_dimensions : (m n : ℕ) (y x : ElementType) → n < m → is_object_element x ≡ true → goes_below us (Array m y) (Array n x) ≡ true
  fewer_dimensions m n y x less h =
      subst (λ b. cond b (is_element_below (is_class_below (classes_of us)) y x) (nat_lt n m && is_object_element x) ≡ true) (sym (ne_eqb m n (λ e. omega (arith, less, e)))) (and_from (nat_lt n m) (is_object_element x) (lt-ltb n m less) h)

  arrays_go : (m n : ℕ) (y x : ElementType) (a b : ObjectType) → 0 < n → (s : Bool) → (m == n) ≡ s → cond s (is_element_below (is_class_below (classes_of us)) y x) (nat_lt n m && is_object_element x) ≡ true
      → element_type (Array m y) ≡ Some a → element_type (Array n x) ≡ Some b → goes_below us a b ≡ true
  arrays_go m n y x a b some true same e f g = by_one (m == 1) refl
    where
      equal : m ≡ n
      equal = eqb-true m n same

      by_one : (s : Bool) → (m == 1) ≡ s → goes_below us a b ≡ true
      by_one true one = inner_goes y x a b e (sym (of_one m y one) ∙ f) (sym (of_one n x (ap (λ k. k == 1) (sym equal) ∙ one)) ∙ g)
      by_one false more =
          subst (λ t. goes_below us t b ≡ true) (same_Some (Array (m - 1) y) a (sym (of_more m y more) ∙ f))
          (subst (λ t. goes_below us (Array (m - 1) y) t ≡ true) (same_Some (Array (n - 1) x) b (sym (of_more n x (ap (λ k. k == 1) (sym equal) ∙ more)) ∙ g))
          (same_dimensions (m - 1) (n - 1) y x (ap (λ k. k - 1) equal) e))
  arrays_go m n y x a b some false other e f g = by_one (n == 1) refl
    where
      parts : (nat_lt n m ≡ true) × (is_object_element x ≡ true)
      parts = and_parts (nat_lt n m) (is_object_element x) e

      less : n < m
      less = ltb-true n m parts.0

      by_one : (s : Bool) → (n == 1) ≡ s → goes_below us a b ≡ true
      by_one true one = inner_object x a b parts.1 (sym (of_one n x one) ∙ g)
      by_one false more =
          subst (λ t. goes_below us t b ≡ true) (same_Some (Array (m - 1) y) a (sym (of_more m y (ne_eqb m 1 (λ k. omega (arith, k, less, some)))) ∙ f))
          (subst (λ t. goes_below us (Array (m - 1) y) t ≡ true) (same_Some (Array (n - 1) x) b (sym (of_more n x more) ∙ g))
          (fewer_dimensions (m - 1) (n - 1) y x (omega (arith, less, some)) parts.1))

  -- an array of references has dimensions
  pub dimensions_of : (n : ℕ) (x : ElementType) → is_array_of_references (Array n x) ≡ true → 0 < n
  dimensions_of zero x e = cc
  dimensions_of (suc n) x e = omega arith

  pub elements_go : (t u a b : ObjectType) → is_array_of_references u ≡ true → goes_below us t (seen_type us u) ≡ true → element_type t ≡ Some a → element_type (seen_type us u) ≡ Some b → goes_below us a b ≡ true
  elements_go (Array m y) (Array n x) a b is below f g = arrays_go m n y (seen_element us x) a b (dimensions_of n x is) (m == n) refl below f g
  elements_go (Class c) u a b is below f g = cc
  elements_go (Other c) u a b is below f g = cc
  elements_go t (Class c) a b is below f g = cc
  elements_go t (Other c) a b is below f g = cc

  -- ---- an array below one of references is one of references

  inner_there : (y x : ElementType) → is_class_element x ≡ true → is_element_below (is_class_below (classes_of us)) y (seen_element us x) ≡ true → (a : ObjectType) × (inner_type y ≡ Some a)
  inner_there (elements.Class c) x is below = (Class c, refl)
  inner_there (elements.Other c) x is below = (Other c, refl)
  inner_there y (elements.Class d) is below = absurd cc
  inner_there y (elements.Other d) is below = absurd cc
  inner_there y x is below = absurd cc

  array_there : (m n : ℕ) (y x : ElementType) → is_array_of_references (Array n x) ≡ true → (s : Bool) → (m == n) ≡ s
      → cond s (is_element_below (is_class_below (classes_of us)) y (seen_element us x)) (nat_lt n m && is_object_element (seen_element us x)) ≡ true → (a : ObjectType) × (element_type (Array m y) ≡ Some a)
  array_there m n y x is s same below = by_one (m == 1) refl
    where
      plain : m ≡ 1 → n ≡ 1 → is_class_element x ≡ true
      plain one other = subst (λ k. (nat_lt 1 k || ((k == 1) && is_class_element x)) ≡ true) other is

      by_same : (s : Bool) → (m == n) ≡ s → m ≡ 1 → cond s (is_element_below (is_class_below (classes_of us)) y (seen_element us x)) (nat_lt n m && is_object_element (seen_element us x)) ≡ true → (a : ObjectType) × (inner_type y ≡ Some a)
      by_same true equal one e = inner_there y x (plain one (sym (eqb-true m n equal) ∙ one)) e
      by_same false other one e =
          let less : n < m = ltb-true n m (and_parts (nat_lt n m) (is_object_element (seen_element us x)) e).0 in
          let some : 0 < n = dimensions_of n x is in
          absurd (omega (arith, less, some, one))

      by_one : (t : Bool) → (m == 1) ≡ t → (a : ObjectType) × (element_type (Array m y) ≡ Some a)
      by_one true one = let (a, at) = by_same s same (eqb-true m 1 one) below in (a, of_one m y one ∙ at)
      by_one false more = (Array (m - 1) y, of_more m y more)

  pub elements_there : (t u : ObjectType) → is_array_of_references u ≡ true → goes_below us t (seen_type us u) ≡ true → (a : ObjectType) × (element_type t ≡ Some a)
  elements_there t (Class c) is below = absurd cc
  elements_there t (Other c) is below = absurd cc
  elements_there (Array m y) (Array n x) is below = array_there m n y x is (m == n) refl below
  elements_there t (Array n x) is below = absurd cc

  -- ---- what is below a type is so as it is seen

  module _ (order : List ℕ) (sound : IsSound us order) where
    -- above an interface are interfaces and Object
    above_interface : (a e : ℕ) → class_has (classes_of us) a INTERFACE ≡ true → class_has (classes_of us) e INTERFACE ≡ false → is_class_below (classes_of us) a e ≡ true → e ≡ OBJECT
    above_interface a e interface plain below = elim (or_cases (e == OBJECT) (list_any (λ x. x == e) (method_order (classes_of us) a)) below) [
      | inl top ↦ eqb-true e OBJECT top
      | inr listed ↦ elim (Contains-append_cases (superclasses (classes_of us) a) (flat_map (superinterfaces (classes_of us)) (superclasses (classes_of us) a)) e (any_there (method_order (classes_of us) a) e listed)) [
        | inl up ↦ elim (contains_cases a (superclasses (classes_of us) (superclass_of (classes_of us) a)) e (subst (λ xs. Contains xs e) (superclasses_step (classes_of us) order sound.linked.order a is.some is.within) up)) [
          | inl same ↦ absurd (true≢false (sym (subst (λ x. class_has (classes_of us) x INTERFACE ≡ true) same interface) ∙ plain))
          | inr above ↦ object_above us order sound.linked e (subst (λ x. Contains (superclasses (classes_of us) x) e) (of_interface us sound.linked.rules a is.within interface) above)
        ]
        | inr over ↦ (let (d, up, at) = from_flat_map (superinterfaces (classes_of us)) (superclasses (classes_of us) a) e over in
            absurd (true≢false (sym (superinterfaces_are us sound.linked.rules (length (classes_of us)) d e at) ∙ plain)))
      ]
    ]
      where
        is : IsClassNumber (classes_of us) a
        is = flagged (classes_of us) a INTERFACE interface

    class_lowered : (a e : ℕ) → is_class_below (classes_of us) a (seen_class us e) ≡ true → is_class_below (classes_of us) (seen_class us a) (seen_class us e) ≡ true
    class_lowered a e below = by_high (class_has (classes_of us) e INTERFACE) refl below
      where
        by_low : (b : Bool) → class_has (classes_of us) a INTERFACE ≡ b → class_has (classes_of us) e INTERFACE ≡ false → is_class_below (classes_of us) a e ≡ true → is_class_below (classes_of us) (cond b OBJECT a) e ≡ true
        by_low true interface plain under = subst (λ x. is_class_below (classes_of us) OBJECT x ≡ true) (sym (above_interface a e interface plain under)) refl
        by_low false same plain under = under

        by_high : (b : Bool) → class_has (classes_of us) e INTERFACE ≡ b → is_class_below (classes_of us) a (cond b OBJECT e) ≡ true → is_class_below (classes_of us) (seen_class us a) (cond b OBJECT e) ≡ true
        by_high true same under = refl
        by_high false plain under = by_low (class_has (classes_of us) a INTERFACE) refl plain under

    element_lowered : (y x : ElementType) → is_element_below (is_class_below (classes_of us)) y (seen_element us x) ≡ true → is_element_below (is_class_below (classes_of us)) (seen_element us y) (seen_element us x) ≡ true
    element_lowered (elements.Class a) (elements.Class e) below = class_lowered a e below
    element_lowered (elements.Class a) x below = cc
    element_lowered y x below = below

    array_lowered : (m n : ℕ) (y x : ElementType) (s : Bool) → cond s (is_element_below (is_class_below (classes_of us)) y (seen_element us x)) (nat_lt n m && is_object_element (seen_element us x)) ≡ true
        → cond s (is_element_below (is_class_below (classes_of us)) (seen_element us y) (seen_element us x)) (nat_lt n m && is_object_element (seen_element us x)) ≡ true
    array_lowered m n y x true e = element_lowered y x e
    array_lowered m n y x false e = e

    pub lowered : (t u : ObjectType) → goes_below us t (seen_type us u) ≡ true → goes_below us (seen_type us t) (seen_type us u) ≡ true
    lowered (Class a) (Class e) below = class_lowered a e below
    lowered (Class a) (Other n) below = cc
    lowered (Class a) (Array n x) below = cc
    lowered (Other m) u below = below
    lowered (Array m y) (Array n x) below = array_lowered m n y x (m == n) below
    lowered (Array m y) (Class e) below = below
    lowered (Array m y) (Other e) below = below
