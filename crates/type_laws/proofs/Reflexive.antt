-- Types that go to themselves.
use Rattle.std.proofs.Common.{if◌then◌else◌, ◌≡◌, ◌↔◌, ℕ, Bool, true, false, not, ◌&&◌, ◌||◌, nat_eq, List, ◌∷◌, IfSome, refl, sym, subst, ap, ◌∙◌}
use Rattle.std.specs.List.{list_any}
use Rattle.std.proofs.lemmas.Bool.{and_from, or_left, or_right, eq-eqb, true≢false}
use Rattle.builtin_world.specs.declared.number.TheConstants.{OBJECT}
use Rattle.code_decode.specs.declared.code.ClassUnit.{ClassUnit}
use Rattle.link_types.specs.declared.types.ElementType.{ElementType}
use Rattle.link_types.specs.declared.types.ElementType.TheVariants as elements
use Rattle.link_types.specs.declared.types.ObjectType.{ObjectType}
use Rattle.link_types.specs.declared.types.ObjectType.TheVariants.{Class, Other, Array}
use Rattle.link_types.specs.Subtypes.{is_object_below, is_element_below}
use Rattle.link_rules.specs.Classes.{classes_of}
use Rattle.link_rules.specs.Supers.{superclasses}
use Rattle.link_rules.specs.Linked.{IsLinked, IsClassNumber}
use Rattle.link_rules.proofs.Upward.{superclasses_step}
use Rattle.type_rules.specs.declared.types.VerificationType.{VerificationType}
use Rattle.type_rules.specs.declared.types.VerificationType.TheVariants.{Top, Int, Float, Long, Double, Second, Null, UninitThis, Uninit, Object}
use Rattle.type_rules.specs.Assignable.{Hierarchy, is_class_assignable, is_same_element, is_same_object, is_same_type}
use Rattle.type_rules.specs.Environments.{hierarchy_of}
use Rattle.type_rules.proofs.SameTypes.{same_type}
use Rattle.type_laws.specs.Itself.{class_in_element, class_in_object, TypesGoToThemselves}

-- ---- the same

element_itself : (x : ElementType) → is_same_element x x ≡ true
element_itself elements.Boolean = refl
element_itself elements.Byte = refl
element_itself elements.Char = refl
element_itself elements.Short = refl
element_itself elements.Int = refl
element_itself elements.Long = refl
element_itself elements.Float = refl
element_itself elements.Double = refl
element_itself (elements.Class c) = eq-eqb c c refl
element_itself (elements.Other n) = eq-eqb n n refl

object_itself : (t : ObjectType) → is_same_object t t ≡ true
object_itself (Class c) = eq-eqb c c refl
object_itself (Other n) = eq-eqb n n refl
object_itself (Array a x) = and_from _ _ (eq-eqb a a refl) (element_itself x)

type_itself : (t : VerificationType) → is_same_type t t ≡ true
type_itself Top = refl
type_itself Int = refl
type_itself Float = refl
type_itself Long = refl
type_itself Double = refl
type_itself Second = refl
type_itself Null = refl
type_itself UninitThis = refl
type_itself (Uninit p) = eq-eqb p p refl
type_itself (Object t) = object_itself t

pub same_means_equal : (a b : VerificationType) → (is_same_type a b ≡ true) ↔ (a ≡ b)
same_means_equal a b =
    (same_type a b, λ e. subst (λ (x : VerificationType). is_same_type a x ≡ true) e (type_itself a))

-- ---- assignable

in_class : (test same : Bool) → same ≡ true → (test || (not test && same)) ≡ true
in_class true same e = refl
in_class false same e = e

class_goes : (h : Hierarchy) (c : ℕ) → h.is_superclass c c ≡ true → is_class_assignable h c c ≡ true
class_goes h c e = or_right (nat_eq c OBJECT) _ (in_class (h.is_interface c) (h.is_superclass c c) e)

first_same : (c : ℕ) (others : List ℕ) (xs : List ℕ) → xs ≡ c ∷ others → list_any (λ x. nat_eq x c) xs ≡ true
first_same c others xs e = ap (λ ys. list_any (λ x. nat_eq x c) ys) e ∙ or_left (nat_eq c c) _ (eq-eqb c c refl)

above_itself : (us : List ClassUnit) (order : List ℕ) (c : ℕ) → IsLinked us order → IsClassNumber (classes_of us) c → is_class_assignable (hierarchy_of (classes_of us)) c c ≡ true
above_itself us order c linked is =
    class_goes (hierarchy_of (classes_of us)) c
    (first_same c _ (superclasses (classes_of us) c) (superclasses_step (classes_of us) order linked.order c is.some is.within))

by_dimension : (same : Bool) (a b : Bool) → same ≡ true → a ≡ true → (if same then a else b) ≡ true
by_dimension true a b s e = e
by_dimension false a b s e = absurd (true≢false (sym s))

element_goes : (us : List ClassUnit) (order : List ℕ) (x : ElementType) → IsLinked us order → IfSome (class_in_element x) (IsClassNumber (classes_of us)) → is_element_below (is_class_assignable (hierarchy_of (classes_of us))) x x ≡ true
element_goes us order elements.Boolean linked is = refl
element_goes us order elements.Byte linked is = refl
element_goes us order elements.Char linked is = refl
element_goes us order elements.Short linked is = refl
element_goes us order elements.Int linked is = refl
element_goes us order elements.Long linked is = refl
element_goes us order elements.Float linked is = refl
element_goes us order elements.Double linked is = refl
element_goes us order (elements.Class c) linked is = above_itself us order c linked is
element_goes us order (elements.Other n) linked is = eq-eqb n n refl

object_goes : (us : List ClassUnit) (order : List ℕ) (t : ObjectType) → IsLinked us order → IfSome (class_in_object t) (IsClassNumber (classes_of us)) → is_object_below (is_class_assignable (hierarchy_of (classes_of us))) t t ≡ true
object_goes us order (Class c) linked is = above_itself us order c linked is
object_goes us order (Other n) linked is = eq-eqb n n refl
object_goes us order (Array a x) linked is = by_dimension (nat_eq a a) _ _ (eq-eqb a a refl) (element_goes us order x linked is)

pub go_to_themselves : (us : List ClassUnit) (order : List ℕ) → TypesGoToThemselves us order
go_to_themselves us order Top linked is = refl
go_to_themselves us order Int linked is = refl
go_to_themselves us order Float linked is = refl
go_to_themselves us order Long linked is = refl
go_to_themselves us order Double linked is = refl
go_to_themselves us order Second linked is = refl
go_to_themselves us order Null linked is = refl
go_to_themselves us order UninitThis linked is = refl
go_to_themselves us order (Uninit p) linked is = eq-eqb p p refl
go_to_themselves us order (Object t) linked is = object_goes us order t linked is
