-- What assignability says of classes.
use Rattle.std.proofs.Common.{◌≡◌, ℕ, Bool, true, false, not, ◌&&◌, nat_lt, nat_eq, List, flat_map, sym, ◌∙◌, inl, inr, arith, if◌then◌else◌}
use Rattle.std.specs.List.{list_any}
use Rattle.std.proofs.lemmas.Bool.{and_parts, or_cases, or_left, or_right, true≢false}
use Rattle.std.proofs.lemmas.List.Folds.{list_any-append}
use Rattle.builtin_world.specs.declared.number.TheConstants.{OBJECT}
use Rattle.link_types.specs.declared.types.ElementType.{ElementType}
use Rattle.link_types.specs.declared.types.ElementType.TheVariants as elements
use Rattle.link_types.specs.declared.types.ObjectType.{ObjectType}
use Rattle.link_types.specs.declared.types.ObjectType.TheVariants.{Class, Other, Array}
use Rattle.link_types.specs.Subtypes.{is_object_below, is_element_below, is_object_element}
use Rattle.link_rules.specs.Classes.{NamedClass}
use Rattle.link_rules.specs.Supers.{superclasses, superinterfaces, is_class_below}
use Rattle.type_rules.specs.Assignable.{is_class_assignable, is_object_assignable}
use Rattle.type_rules.specs.Environments.{hierarchy_of}
use Rattle.type_laws.specs.Programs.{AssignableMeansBelow, element_is_interface, type_is_interface}

-- a superclass is in the order of look-up
above : (cs : List NamedClass) (c d : ℕ) → (hierarchy_of cs).is_superclass c d ≡ true → is_class_below cs c d ≡ true
above cs c d e =
    or_right (nat_eq d OBJECT) _ (list_any-append (λ x. nat_eq x d) (superclasses cs c) (flat_map (superinterfaces cs) (superclasses cs c))
    ∙ or_left (list_any (λ x. nat_eq x d) (superclasses cs c)) _ e)

class_below : (cs : List NamedClass) (c d : ℕ) → (hierarchy_of cs).is_interface d ≡ false → is_class_assignable (hierarchy_of cs) c d ≡ true → is_class_below cs c d ≡ true
class_below cs c d none e =
    elim (or_cases (nat_eq d OBJECT) _ e) [
      | inl top ↦ or_left (nat_eq d OBJECT) _ top
      | inr other ↦ elim (or_cases ((hierarchy_of cs).is_interface d) _ other) [
        | inl interface ↦ absurd (true≢false (sym interface ∙ none))
        | inr class ↦ above cs c d (and_parts (not ((hierarchy_of cs).is_interface c)) _ class).1
      ]
    ]

element_below : (cs : List NamedClass) (x y : ElementType) → element_is_interface (hierarchy_of cs) y ≡ false → is_element_below (is_class_assignable (hierarchy_of cs)) x y ≡ true → is_element_below (is_class_below cs) x y ≡ true
element_below cs (elements.Class c) (elements.Class d) none e = class_below cs c d none e
element_below cs x y none e = grind arith

by_dimensions : (same : Bool) (a b c : Bool) → (a ≡ true → b ≡ true) → (if same then a else c) ≡ true → (if same then b else c) ≡ true
by_dimensions true a b c up e = up e
by_dimensions false a b c up e = e

object_below : (cs : List NamedClass) (s t : ObjectType) → type_is_interface (hierarchy_of cs) t ≡ false → is_object_assignable (hierarchy_of cs) s t ≡ true → is_object_below (is_class_below cs) s t ≡ true
object_below cs (Class c) (Class d) none e = class_below cs c d none e
object_below cs (Other m) (Class d) none e = e
object_below cs (Other m) (Other n) none e = e
object_below cs (Array a x) (Class d) none e = e
object_below cs (Array a x) (Array b y) none e =
    by_dimensions (nat_eq a b) _ _ (nat_lt b a && is_object_element y) (element_below cs x y none) e
object_below cs (Class c) (Other n) none e = absurd (true≢false (sym e))
object_below cs (Class c) (Array b y) none e = absurd (true≢false (sym e))
object_below cs (Other m) (Array b y) none e = absurd (true≢false (sym e))
object_below cs (Array a x) (Other n) none e = absurd (true≢false (sym e))

pub means_below : (cs : List NamedClass) → AssignableMeansBelow cs
means_below cs = record { class = class_below cs; object = object_below cs }
