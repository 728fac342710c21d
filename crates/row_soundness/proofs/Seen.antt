-- A type that is assignable to another one is below it, where each interface is taken as Object.
use Rattle.std.proofs.Common.{◌≡◌, ℕ, List, Bool, true, false, not, ◌&&◌, ◌||◌, ◌==◌, nat_lt, refl, ap, subst, if◌then◌else◌}
use Rattle.std.proofs.lemmas.Bool.{and_parts, and_from}
use Rattle.builtin_world.specs.declared.number.TheConstants.{OBJECT}
use Rattle.code_decode.specs.declared.code.ClassUnit.{ClassUnit}
use Rattle.link_types.specs.declared.types.ElementType.{ElementType}
use Rattle.link_types.specs.declared.types.ObjectType.{ObjectType}
use Rattle.link_types.specs.declared.types.ObjectType.TheVariants.{Class, Other, Array}
use Rattle.link_types.specs.Subtypes.{is_object_below, is_element_below, is_object_element}
use Rattle.link_rules.specs.Classes.{classes_of}
use Rattle.link_rules.specs.Supers.{is_class_below}
use Rattle.type_rules.specs.Assignable.{Hierarchy, is_class_assignable, is_object_assignable}
use Rattle.type_rules.specs.Environments.{hierarchy_of}
use Rattle.type_laws.proofs.Below.{means_below}
use Rattle.row_soundness.specs.Runs.{seen_class, seen_element, seen_type}
use Rattle.link_types.specs.declared.types.ElementType.TheVariants as elements

module _ (us : List ClassUnit) where
  abbrev h : Hierarchy
  h = hierarchy_of (classes_of us)

  abbrev below : ℕ → ℕ → Bool
  below = is_class_below (classes_of us)

  class_seen : (a b : ℕ) → is_class_assignable h a b ≡ true → below (seen_class us a) (seen_class us b) ≡ true
  class_seen a b e = by_high (h.is_interface b) refl
    where
      by_low : (x : Bool) → h.is_interface a ≡ x → h.is_interface b ≡ false → below (if x then OBJECT else a) b ≡ true
      by_low false same high = (means_below (classes_of us)).class a b high e
      by_low true same high =
          let top : (b == OBJECT) ≡ true = only_top (b == OBJECT) (h.is_superclass a b) (subst (λ x. (b == OBJECT || (h.is_interface b || (not x && h.is_superclass a b))) ≡ true) same e) high in
          ap (λ x. x || Rattle.std.specs.List.list_any (λ d. d == b) (Rattle.link_rules.specs.Supers.method_order (classes_of us) OBJECT)) top
        where
          only_top : (x y : Bool) → (x || (h.is_interface b || (not true && y))) ≡ true → h.is_interface b ≡ false → x ≡ true
          only_top true y e f = refl
          only_top false y e f = let bad : (false || (false || false)) ≡ true = subst (λ z. (false || (z || (not true && y))) ≡ true) f e in cc

      by_high : (x : Bool) → h.is_interface b ≡ x → below (seen_class us a) (if x then OBJECT else b) ≡ true
      by_high true same = refl
      by_high false same = by_low (h.is_interface a) refl same

  object_seen : (a : ℕ) → (if h.is_interface a then OBJECT else a) ≡ seen_class us a
  object_seen a = refl

  -- Object is seen as itself
  top_seen : (b : ℕ) → (b == OBJECT) ≡ true → (seen_class us b == OBJECT) ≡ true
  top_seen b e = by_high (h.is_interface b)
    where
      by_high : (x : Bool) → ((if x then OBJECT else b) == OBJECT) ≡ true
      by_high true = refl
      by_high false = e

  element_seen : (x y : ElementType) → is_element_below (is_class_assignable h) x y ≡ true → is_element_below below (seen_element us x) (seen_element us y) ≡ true
  element_seen (elements.Class a) (elements.Class b) e = class_seen a b e
  element_seen (elements.Other m) (elements.Class b) e = top_seen b e
  element_seen (elements.Other m) (elements.Other n) e = e
  element_seen elements.Boolean elements.Boolean e = refl
  element_seen elements.Byte elements.Byte e = refl
  element_seen elements.Char elements.Char e = refl
  element_seen elements.Short elements.Short e = refl
  element_seen elements.Int elements.Int e = refl
  element_seen elements.Long elements.Long e = refl
  element_seen elements.Float elements.Float e = refl
  element_seen elements.Double elements.Double e = refl
  element_seen x y e = cc

  top_element : (y : ElementType) → is_object_element y ≡ true → is_object_element (seen_element us y) ≡ true
  top_element (elements.Class b) e = top_seen b e
  top_element y e = cc

  pub assignable_seen : (s t : ObjectType) → is_object_assignable h s t ≡ true → is_object_below below (seen_type us s) (seen_type us t) ≡ true
  assignable_seen (Class a) (Class b) e = class_seen a b e
  assignable_seen (Other m) (Class b) e = top_seen b e
  assignable_seen (Other m) (Other n) e = e
  assignable_seen (Array m x) (Class b) e = top_seen b e
  assignable_seen (Array m x) (Array n y) e = by_dimensions (m == n) e
    where
      by_dimensions : (same : Bool) → (if same then is_element_below (is_class_assignable h) x y else (nat_lt n m && is_object_element y)) ≡ true
          → (if same then is_element_below below (seen_element us x) (seen_element us y) else (nat_lt n m && is_object_element (seen_element us y))) ≡ true
      by_dimensions true e = element_seen x y e
      by_dimensions false e = let parts = and_parts (nat_lt n m) (is_object_element y) e in and_from _ _ parts.0 (top_element y parts.1)
  assignable_seen s t e = cc
