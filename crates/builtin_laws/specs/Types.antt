-- The names and the types of the built-in classes (JVMS SE 8, 4.2 and 4.3).
use Rattle.std.specs.Prelude.{◌≢◌, ℕ, List, Option, IfSome, All}
use Rattle.std.specs.List.{AllByRecursion}
use Rattle.class_names.specs.declared.kind.BaseKind.{BaseKind}
use Rattle.class_names.specs.declared.kind.BaseKind.TheVariants as bases
use Rattle.class_names.specs.declared.kind.Kind.{Kind}
use Rattle.class_names.specs.declared.kind.Kind.TheVariants as kinds
use Rattle.class_names.specs.Names.{IsClassName, IsMemberName, IsMethodName}
use Rattle.class_names.specs.Descriptor.{IsFieldDescriptor, IsMethodDescriptor}
use Rattle.builtin_world.specs.Library.{Field, Method, library}
use Rattle.builtin_world.specs.BuiltinClass.{number_of}

-- not float or double, and a class only if it is built in
abbrev pub IsBuiltInBase : BaseKind → Type 0
IsBuiltInBase bases.Float = ⊥
IsBuiltInBase bases.Double = ⊥
IsBuiltInBase (bases.Class name) = number_of name ≢ 0
IsBuiltInBase _ = Unit {0}

abbrev pub IsBuiltInKind : Kind → Type 0
IsBuiltInKind (kinds.Base base) = IsBuiltInBase base
IsBuiltInKind (kinds.Array dimensions base) = IsBuiltInBase base

-- the descriptor of a field of such a kind, and of a method of such kinds
abbrev pub HasBuiltInKind : List ℕ → Type 0
HasBuiltInKind descriptor = (kind : Kind) × IsFieldDescriptor descriptor kind × IsBuiltInKind kind

abbrev pub HasBuiltInKinds : List ℕ → Type 0
HasBuiltInKinds descriptor =
    (parameters : List Kind) × (returned : Option Kind) × IsMethodDescriptor descriptor parameters returned
    × AllByRecursion IsBuiltInKind parameters × IfSome returned IsBuiltInKind

abbrev pub IsTypedField : Field → Type 0
IsTypedField f = IsMemberName f.name × HasBuiltInKind f.descriptor

abbrev pub IsTypedMethod : Method → Type 0
IsTypedMethod m = IsMethodName m.name × HasBuiltInKinds m.descriptor

abbrev pub ClassesAreNamed : Type 0
ClassesAreNamed = All (λ c. IsClassName c.name) library

abbrev pub FieldsAreTyped : Type 0
FieldsAreTyped = All (λ c. All IsTypedField c.fields) library

abbrev pub MethodsAreTyped : Type 0
MethodsAreTyped = All (λ c. All IsTypedMethod c.methods) library
