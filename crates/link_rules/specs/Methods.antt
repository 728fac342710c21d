-- What a method is to its callers (JVMS 4.6, 5.5, 6.5).
use Rattle.std.specs.Prelude.{ℕ, zero, suc, ◌&&◌, Bool, Option, None, Some, List, [], filter_map, sum_by, slice_get, codes, option_map, option_and_then, if◌then◌else◌}
use Rattle.std.specs.Option.{option_map_or, option_flatten}
use Rattle.builtin_world.specs.Library.{library}
use Rattle.builtin_world.specs.Library.{Class as LibraryClass, Method as LibraryMethod}
use Rattle.builtin_world.specs.declared.Native.{Native}
use Rattle.builtin_world.specs.declared.number.TheConstants.{OBJECT}
use Rattle.class_names.specs.declared.kind.Kind.{Kind}
use Rattle.class_pool.specs.Pool.{reference_of}
use Rattle.code_decode.specs.declared.code.Code.{Code}
use Rattle.code_decode.specs.declared.code.ClassUnit.{ClassUnit}
use Rattle.link_types.specs.declared.methods.MethodBody.{MethodBody}
use Rattle.link_types.specs.declared.methods.MethodBody.TheVariants as bodies
use Rattle.link_types.specs.declared.operands.MethodId.{MethodId}
use Rattle.link_types.specs.declared.types.ValueType.{ValueType}
use Rattle.link_types.specs.Types.{words_of_value}
use Rattle.access_flags.specs.declared.TheConstants.{PRIVATE, STATIC, ABSTRACT}
use Rattle.access_flags.specs.Flags.{has}
use Rattle.link_rules.specs.Classes.{NamedClass, NamedMember, unit_numbered, methods_of}
use Rattle.link_rules.specs.Members.{Declared, declared, is_member, signature_of, selected, method_id}
use Rattle.class_names.specs.Kinds.{method_kinds}
use Rattle.link_rules.specs.Names.{ProgramNames, array_numbered, value_type}

abbrev pub method_named : List NamedClass → MethodId → Option NamedMember
method_named cs id = slice_get (methods_of cs id.class) id.method

-- the types of the parameters without the receiver, and that of the result, if there is one
abbrev pub parameter_types : ProgramNames → List ℕ → List ValueType
parameter_types p descriptor =
    option_map_or (λ (m : List Kind × Option Kind). filter_map (value_type p) m.0) (method_kinds descriptor) []

abbrev pub result_type : ProgramNames → List ℕ → Option ValueType
result_type p descriptor =
    option_and_then (value_type p) (option_and_then (λ (m : List Kind × Option Kind). m.1) (method_kinds descriptor))

abbrev pub parameter_words : ProgramNames → List ℕ → ℕ
parameter_words p descriptor = sum_by words_of_value (parameter_types p descriptor)

abbrev pub library_numbered : ℕ → Option LibraryClass
library_numbered zero = None
library_numbered (suc i) = slice_get library i

-- the native of a method of a built-in class
abbrev pub native_of : MethodId → Option Native
native_of id =
    option_and_then (λ (c : LibraryClass). option_map (λ (m : LibraryMethod). m.native) (slice_get c.methods id.method))
    (library_numbered id.class)

-- what a call of a method executes
abbrev pub body_of_member : MethodId → NamedMember → MethodBody
body_of_member id m =
    if has m.flags ABSTRACT then bodies.Abstract else option_map_or (λ n. bodies.Native n) (native_of id) bodies.Code

abbrev pub method_body : List NamedClass → MethodId → Option MethodBody
method_body cs id = option_map (body_of_member id) (method_named cs id)

abbrev pub method_code : List ClassUnit → MethodId → Option Code
method_code us id =
    option_flatten (option_and_then (λ (u : ClassUnit). slice_get u.codes id.method) (unit_numbered us id.class))

-- the method that initializes a class: a static `<clinit>` that takes nothing and gives nothing (JVMS 2.9)
abbrev pub initializes_class : NamedMember → Bool
initializes_class m = is_member (reference_of [] (codes "<clinit>") (codes "()V")) m && has m.flags STATIC

abbrev pub initializer : List NamedClass → ℕ → Option MethodId
initializer cs c = option_map method_id (declared (methods_of cs) initializes_class c)

-- an abstract method is no answer
abbrev pub implemented : Option Declared → Option Declared
implemented (Some d) = if has d.member.flags ABSTRACT then None else Some d
implemented None = None

-- the class at which selection begins: an array has the methods of Object
abbrev pub selection_start : ProgramNames → ℕ → ℕ
selection_start p c = option_map_or (λ _. OBJECT) (array_numbered p c) c

abbrev pub select_member : ProgramNames → ℕ → MethodId → NamedMember → Option MethodId
select_member p c id m =
    if has m.flags PRIVATE then Some id
    else option_map method_id (implemented (selected p.classes (selection_start p c) (signature_of m)))

-- the method that a call of a method executes on an object of a class: a private method itself, and else the one that
-- is selected, unless it is abstract (JVMS 6.5, invokevirtual, invokeinterface)
abbrev pub select_virtual : ProgramNames → ℕ → MethodId → Option MethodId
select_virtual p c id = option_and_then (select_member p c id) (method_named p.classes id)
