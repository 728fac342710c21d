-- What verification says of the methods of a program, and what assignability says of its classes.
use Rattle.std.specs.Prelude.{◌≡◌, ℕ, Bool, true, false, Some, List, slice_get}
use Rattle.class_read.specs.declared.class_file.Member.{Member}
use Rattle.code_decode.specs.declared.code.Code.{Code}
use Rattle.code_decode.specs.declared.code.ClassUnit.{ClassUnit}
use Rattle.link_types.specs.declared.types.ElementType.{ElementType}
use Rattle.link_types.specs.declared.types.ElementType.TheVariants as elements
use Rattle.link_types.specs.declared.types.ObjectType.{ObjectType}
use Rattle.link_types.specs.declared.types.ObjectType.TheVariants.{Class, Array}
use Rattle.link_types.specs.Subtypes.{is_object_below}
use Rattle.link_rules.specs.Classes.{NamedClass, member_of_file, number_of_file}
use Rattle.link_rules.specs.Supers.{is_class_below}
use Rattle.link_rules.specs.Names.{program_names}
use Rattle.link_rules.specs.Operands.{operand}
use Rattle.type_rules.specs.Assignable.{Hierarchy, is_class_assignable, is_object_assignable}
use Rattle.type_rules.specs.Environment.{Environment}
use Rattle.type_rules.specs.Environments.{environment, environment_of, hierarchy_of}
use Rattle.type_rules.specs.TypeSafe.{IsTypeSafe}
use Rattle.type_rules.specs.VerifyRules.{method_of_file}

-- the environment of a method of the class of the file at a place
abbrev pub environment_in : List ClassUnit → ℕ → ClassUnit → Member → Code → Environment
environment_in us file u m code =
    environment (program_names us) (operand us (number_of_file file)) (number_of_file file) (member_of_file u.file.pool m) code

-- the method of this number of that class, and its code
pub record IsMethodWithCode (us : List ClassUnit) (file method : ℕ) (u : ClassUnit) (m : Member) (code : Code) : Type 0 where
  pub unit_there : slice_get us file ≡ Some u
  pub member_there : slice_get u.file.methods method ≡ Some m
  pub code_there : slice_get u.codes method ≡ Some (Some code)

abbrev pub MethodsHaveEnvironments : List ClassUnit → Type 0
MethodsHaveEnvironments us =
    (file method : ℕ) (u : ClassUnit) (m : Member) (code : Code) → IsMethodWithCode us file method u m code
    → environment_of us (method_of_file file method) ≡ Some (environment_in us file u m code)

abbrev pub MethodsAreTypeSafe : List ClassUnit → Type 0
MethodsAreTypeSafe us =
    (file method : ℕ) (u : ClassUnit) (m : Member) (code : Code) → IsMethodWithCode us file method u m code
    → IsTypeSafe (environment_in us file u m code)

-- the type, or that of the innermost elements, is an interface of the program
abbrev pub element_is_interface : Hierarchy → ElementType → Bool
element_is_interface h (elements.Class c) = h.is_interface c
element_is_interface h _ = false

abbrev pub type_is_interface : Hierarchy → ObjectType → Bool
type_is_interface h (Class c) = h.is_interface c
type_is_interface h (Array dimensions x) = element_is_interface h x
type_is_interface h _ = false

-- what is assignable to a type is below it, as instanceof sees it, unless that type is an interface
pub record AssignableMeansBelow (cs : List NamedClass) : Type 0 where
  pub class : (c d : ℕ) → (hierarchy_of cs).is_interface d ≡ false → is_class_assignable (hierarchy_of cs) c d ≡ true → is_class_below cs c d ≡ true
  pub object : (s t : ObjectType) → type_is_interface (hierarchy_of cs) t ≡ false → is_object_assignable (hierarchy_of cs) s t ≡ true
      → is_object_below (is_class_below cs) s t ≡ true
