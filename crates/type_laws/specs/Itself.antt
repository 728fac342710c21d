-- Types that go to themselves (JVMS 4.10.1.2).
use Rattle.std.specs.Prelude.{◌≡◌, ℕ, true, Option, None, Some, List, IfSome}
use Rattle.code_decode.specs.declared.code.ClassUnit.{ClassUnit}
use Rattle.link_types.specs.declared.types.ElementType.{ElementType}
use Rattle.link_types.specs.declared.types.ElementType.TheVariants as elements
use Rattle.link_types.specs.declared.types.ObjectType.{ObjectType}
use Rattle.link_types.specs.declared.types.ObjectType.TheVariants.{Class, Array}
use Rattle.link_rules.specs.Classes.{classes_of}
use Rattle.link_rules.specs.Linked.{IsLinked, IsClassNumber}
use Rattle.type_rules.specs.declared.types.VerificationType.{VerificationType}
use Rattle.type_rules.specs.declared.types.VerificationType.TheVariants.{Object}
use Rattle.type_rules.specs.Assignable.{is_assignable}
use Rattle.type_rules.specs.Environments.{hierarchy_of}

-- the class of the program that a type names, of an array that of its innermost elements
abbrev pub class_in_element : ElementType → Option ℕ
class_in_element (elements.Class c) = Some c
class_in_element _ = None

abbrev pub class_in_object : ObjectType → Option ℕ
class_in_object (Class c) = Some c
class_in_object (Array dimensions x) = class_in_element x
class_in_object _ = None

abbrev pub class_in_type : VerificationType → Option ℕ
class_in_type (Object t) = class_in_object t
class_in_type _ = None

abbrev pub TypesGoToThemselves : List ClassUnit → List ℕ → Type 0
TypesGoToThemselves us order =
    (t : VerificationType) → IsLinked us order → IfSome (class_in_type t) (IsClassNumber (classes_of us))
    → is_assignable (hierarchy_of (classes_of us)) t t ≡ true
