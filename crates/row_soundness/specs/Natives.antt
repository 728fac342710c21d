-- What the methods of the built-in classes take and give, and whose they are (the Java SE 8 API).
use Rattle.std.specs.Prelude.{◌≡◌, ℕ, Bool, true, false, Option, None, Some, List, [], ◌∷◌}
use Rattle.link_types.specs.declared.types.ValueType.{ValueType}
use Rattle.builtin_world.specs.declared.number.TheConstants.{OBJECT, THREAD, RUNNABLE, STRING, STRING_BUILDER, THROWABLE}
use Rattle.link_rules.specs.Names.{program_names}
use Rattle.java_rows.specs.Program.{body_of, method_has, is_subclass}
use Rattle.code_decode.specs.declared.code.ClassUnit.{ClassUnit}
use Rattle.link_types.specs.declared.operands.MethodId.{MethodId}
use Rattle.link_types.specs.declared.types.ObjectType.TheVariants.{Class}
use Rattle.access_flags.specs.declared.TheConstants.{STATIC}
use Rattle.builtin_world.specs.declared.Native.{Native}
use Rattle.link_rules.specs.Classes.{classes_of}
use Rattle.type_rules.specs.Assignable.{is_object_assignable}
use Rattle.type_rules.specs.Environments.{hierarchy_of, parameters_of_method, result_of_method}
use Rattle.builtin_world.specs.declared.Native.TheVariants as natives
use Rattle.link_types.specs.declared.types.ValueType.TheVariants as values
use Rattle.link_types.specs.declared.methods.MethodBody.TheVariants as bodies

-- what the methods of the built-in classes take and give, and whose they are
abbrev pub native_takes : Native → List ValueType
native_takes natives.ObjectEquals = values.Object (Class OBJECT) ∷ []
native_takes natives.PrintlnInt = values.Int ∷ []
native_takes natives.PrintlnLong = values.Long ∷ []
native_takes natives.PrintlnChar = values.Char ∷ []
native_takes natives.PrintlnBoolean = values.Boolean ∷ []
native_takes natives.PrintlnString = values.Object (Class STRING) ∷ []
native_takes natives.ThreadInitTarget = values.Object (Class RUNNABLE) ∷ []
native_takes natives.ThreadSetPriority = values.Int ∷ []
native_takes natives.ThrowableInitMessage = values.Object (Class STRING) ∷ []
native_takes natives.StringCharAt = values.Int ∷ []
native_takes natives.StringEquals = values.Object (Class OBJECT) ∷ []
native_takes natives.StringConcat = values.Object (Class STRING) ∷ []
native_takes natives.BuilderInitText = values.Object (Class STRING) ∷ []
native_takes natives.AppendInt = values.Int ∷ []
native_takes natives.AppendLong = values.Long ∷ []
native_takes natives.AppendChar = values.Char ∷ []
native_takes natives.AppendBoolean = values.Boolean ∷ []
native_takes natives.AppendString = values.Object (Class STRING) ∷ []
native_takes _ = []

abbrev pub native_gives : Native → Option ValueType
native_gives natives.ObjectEquals = Some values.Boolean
native_gives natives.ThreadGetPriority = Some values.Int
native_gives natives.ThreadCurrentThread = Some (values.Object (Class THREAD))
native_gives natives.ThrowableGetMessage = Some (values.Object (Class STRING))
native_gives natives.StringLength = Some values.Int
native_gives natives.StringCharAt = Some values.Char
native_gives natives.StringEquals = Some values.Boolean
native_gives natives.StringConcat = Some (values.Object (Class STRING))
native_gives natives.AppendInt = Some (values.Object (Class STRING_BUILDER))
native_gives natives.AppendLong = Some (values.Object (Class STRING_BUILDER))
native_gives natives.AppendChar = Some (values.Object (Class STRING_BUILDER))
native_gives natives.AppendBoolean = Some (values.Object (Class STRING_BUILDER))
native_gives natives.AppendString = Some (values.Object (Class STRING_BUILDER))
native_gives natives.BuilderLength = Some values.Int
native_gives natives.BuilderToString = Some (values.Object (Class STRING))
native_gives _ = None

abbrev pub native_static : Native → Bool
native_static natives.ThreadCurrentThread = true
native_static natives.ThreadYield = true
native_static _ = false

abbrev pub IsThrowable : List ClassUnit → ℕ → Type 0
IsThrowable us c = (is_subclass us c THROWABLE ≡ true) × (is_object_assignable (hierarchy_of (classes_of us)) (Class c) (Class THROWABLE) ≡ true)

abbrev pub IsNativeOf : List ClassUnit → Native → ℕ → Type 0
IsNativeOf us natives.PrintlnEmpty c = Unit {0}
IsNativeOf us natives.PrintlnInt c = Unit {0}
IsNativeOf us natives.PrintlnLong c = Unit {0}
IsNativeOf us natives.PrintlnChar c = Unit {0}
IsNativeOf us natives.PrintlnBoolean c = Unit {0}
IsNativeOf us natives.PrintlnString c = Unit {0}
IsNativeOf us natives.ObjectInit c = c ≡ OBJECT
IsNativeOf us natives.ObjectWait c = c ≡ OBJECT
IsNativeOf us natives.ObjectNotify c = c ≡ OBJECT
IsNativeOf us natives.ObjectNotifyAll c = c ≡ OBJECT
IsNativeOf us natives.ObjectEquals c = c ≡ OBJECT
IsNativeOf us natives.ThrowableInit c = IsThrowable us c
IsNativeOf us natives.ThrowableInitMessage c = IsThrowable us c
IsNativeOf us natives.ThrowableGetMessage c = IsThrowable us c
IsNativeOf us natives.RunnableRun c = ⊥
IsNativeOf us natives.StringLength c = c ≡ STRING
IsNativeOf us natives.StringCharAt c = c ≡ STRING
IsNativeOf us natives.StringEquals c = c ≡ STRING
IsNativeOf us natives.StringConcat c = c ≡ STRING
IsNativeOf us natives.BuilderInit c = c ≡ STRING_BUILDER
IsNativeOf us natives.BuilderInitText c = c ≡ STRING_BUILDER
IsNativeOf us natives.AppendInt c = c ≡ STRING_BUILDER
IsNativeOf us natives.AppendLong c = c ≡ STRING_BUILDER
IsNativeOf us natives.AppendChar c = c ≡ STRING_BUILDER
IsNativeOf us natives.AppendBoolean c = c ≡ STRING_BUILDER
IsNativeOf us natives.AppendString c = c ≡ STRING_BUILDER
IsNativeOf us natives.BuilderLength c = c ≡ STRING_BUILDER
IsNativeOf us natives.BuilderToString c = c ≡ STRING_BUILDER
IsNativeOf us _ c = c ≡ THREAD

-- those that are constructors
abbrev pub IsNativeConstructor : Native → Type 0
IsNativeConstructor natives.ObjectInit = Unit {0}
IsNativeConstructor natives.ThreadInit = Unit {0}
IsNativeConstructor natives.ThreadInitTarget = Unit {0}
IsNativeConstructor natives.ThrowableInit = Unit {0}
IsNativeConstructor natives.ThrowableInitMessage = Unit {0}
IsNativeConstructor natives.BuilderInit = Unit {0}
IsNativeConstructor natives.BuilderInitText = Unit {0}
IsNativeConstructor _ = ⊥

abbrev pub IsNative : List ClassUnit → MethodId → Native → Type 0
IsNative us id n = body_of us id ≡ Some (bodies.Native n)

pub record FitsNative (us : List ClassUnit) (n : Native) (id : MethodId) : Type 0 where
  pub takes : parameters_of_method (program_names us) id ≡ native_takes n
  pub gives : result_of_method (program_names us) id ≡ native_gives n
  pub static : method_has us id STATIC ≡ native_static n
  pub of : IsNativeOf us n id.class
