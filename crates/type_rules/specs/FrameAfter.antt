-- The frame after an instruction (JVMS 4.10.1.9).
use Rattle.std.specs.Prelude.{ℕ, ◌+◌, ◌-◌, Bool, false, not, ◌==◌, ◌&&◌, Option, List, [], ◌∷◌, ◌++◌, map, drop, slice_index_or, slice_set, if◌then◌else◌}
use Rattle.std.specs.Option.{option_map_or}
use Rattle.builtin_world.specs.declared.number.TheConstants.{CLASS, STRING, PRINT_STREAM}
use Rattle.instructions.specs.declared.operation.Plain.{Plain}
use Rattle.instructions.specs.declared.operation.Plain.TheVariants as plain
use Rattle.instructions.specs.declared.operation.ElementKind.TheVariants as kinds
use Rattle.instructions.specs.declared.operation.PrimitiveType.{PrimitiveType}
use Rattle.instructions.specs.declared.operation.PrimitiveType.TheVariants as primitives
use Rattle.instructions.specs.declared.operation.StackOperation.{StackOperation}
use Rattle.instructions.specs.declared.operation.StackOperation.TheVariants.{Pop, Pop2, Dup, DupX1, DupX2, Dup2, Dup2X1, Dup2X2, Swap}
use Rattle.instructions.specs.declared.operation.Conversion.TheVariants as conversions
use Rattle.instructions.specs.declared.operation.ValueKind.TheVariants as values
use Rattle.instructions.specs.declared.operation.LocalAccess.{LocalAccess}
use Rattle.instructions.specs.declared.operation.LocalAccess.TheVariants.{Load, Store}
use Rattle.instructions.specs.declared.operation.FieldAccess.{FieldAccess}
use Rattle.instructions.specs.declared.operation.FieldAccess.TheVariants as fields
use Rattle.instructions.specs.declared.operation.Call.TheVariants.{Special}
use Rattle.instructions.specs.declared.operation.ClassUse.{ClassUse}
use Rattle.instructions.specs.declared.operation.ClassUse.TheVariants as uses
use Rattle.instructions.specs.declared.what.What.{What}
use Rattle.instructions.specs.declared.what.What.TheVariants as whats
use Rattle.instructions.specs.declared.what.Instr.{Instr}
use Rattle.instructions.specs.declared.what.Target.{Target}
use Rattle.link_types.specs.declared.types.ElementType.{ElementType}
use Rattle.link_types.specs.declared.types.ElementType.TheVariants as elements
use Rattle.link_types.specs.declared.types.ObjectType.{ObjectType}
use Rattle.link_types.specs.declared.types.ObjectType.TheVariants.{Class, Other, Array}
use Rattle.link_types.specs.declared.types.ValueType.{ValueType}
use Rattle.link_types.specs.declared.operands.Operand.{Operand}
use Rattle.link_types.specs.declared.operands.Operand.TheVariants as operands
use Rattle.type_rules.specs.declared.types.VerificationType.{VerificationType}
use Rattle.type_rules.specs.declared.types.VerificationType.TheVariants.{Top, Int, Long, Double, Second, Null, UninitThis, Uninit, Object}
use Rattle.type_rules.specs.Assignable.{is_same_type}
use Rattle.type_rules.specs.Environment.{Environment, TypeFrame, on_stack, type_of_value}
use Rattle.type_rules.specs.Wants.{wants, words_wanted}

-- ---- what is put on the stack

abbrev pub type_of_element : ElementType → VerificationType
type_of_element (elements.Class c) = Object (Class c)
type_of_element (elements.Other n) = Object (Other n)
type_of_element _ = Null

-- the type of what is read from an array of references, and null from null
abbrev pub element_of : VerificationType → VerificationType
element_of (Object (Array dimensions x)) =
    if dimensions == 1 then type_of_element x else Object (Array (dimensions - 1) x)
element_of _ = Null

abbrev pub primitive_element : PrimitiveType → ElementType
primitive_element primitives.Boolean = elements.Boolean
primitive_element primitives.Char = elements.Char
primitive_element primitives.Byte = elements.Byte
primitive_element primitives.Short = elements.Short
primitive_element primitives.Int = elements.Int
primitive_element primitives.Long = elements.Long

-- an array of such objects
abbrev pub array_type_of : ObjectType → ObjectType
array_type_of (Class c) = Array 1 (elements.Class c)
array_type_of (Other n) = Array 1 (elements.Other n)
array_type_of (Array dimensions x) = Array (dimensions + 1) x

-- the words on top, moved (JVMS 6.5, pop to swap)
abbrev pub moved_words : StackOperation → List VerificationType → List VerificationType
moved_words Pop (a ∷ rest) = rest
moved_words Pop2 (a ∷ b ∷ rest) = rest
moved_words Dup (a ∷ rest) = a ∷ a ∷ rest
moved_words DupX1 (a ∷ b ∷ rest) = a ∷ b ∷ a ∷ rest
moved_words DupX2 (a ∷ b ∷ c ∷ rest) = a ∷ b ∷ c ∷ a ∷ rest
moved_words Dup2 (a ∷ b ∷ rest) = a ∷ b ∷ a ∷ b ∷ rest
moved_words Dup2X1 (a ∷ b ∷ c ∷ rest) = a ∷ b ∷ c ∷ a ∷ b ∷ rest
moved_words Dup2X2 (a ∷ b ∷ c ∷ d ∷ rest) = a ∷ b ∷ c ∷ d ∷ a ∷ b ∷ rest
moved_words Swap (a ∷ b ∷ rest) = b ∷ a ∷ rest
moved_words _ stack = stack

abbrev pub local_at : TypeFrame → ℕ → VerificationType
local_at f n = slice_index_or f.locals n Top

-- the word under n others
abbrev pub stack_at : TypeFrame → ℕ → VerificationType
stack_at f n = slice_index_or f.stack n Top

abbrev pub plain_pushes : Plain → TypeFrame → List VerificationType
plain_pushes plain.Null f = on_stack Null
plain_pushes (plain.ArrayLoad kinds.Reference) f = on_stack (element_of (stack_at f 1))
plain_pushes (plain.ArrayLoad kinds.Long) f = on_stack Long
plain_pushes (plain.ArrayLoad _) f = on_stack Int
plain_pushes (plain.IntArithmetic _) f = on_stack Int
plain_pushes (plain.LongArithmetic _) f = on_stack Long
plain_pushes plain.IntNegate f = on_stack Int
plain_pushes plain.LongNegate f = on_stack Long
plain_pushes (plain.IntShift _) f = on_stack Int
plain_pushes (plain.LongShift _) f = on_stack Long
plain_pushes (plain.Convert conversions.IntToLong) f = on_stack Long
plain_pushes (plain.Convert _) f = on_stack Int
plain_pushes plain.LongCompare f = on_stack Int
plain_pushes plain.ArrayLength f = on_stack Int
plain_pushes _ f = []

abbrev pub local_pushes : LocalAccess → ℕ → TypeFrame → List VerificationType
local_pushes (Load values.Int) n f = on_stack Int
local_pushes (Load values.Long) n f = on_stack Long
local_pushes (Load values.Reference) n f = local_at f n ∷ []
local_pushes _ n f = []

abbrev pub constant_pushes : Operand → List VerificationType
constant_pushes (operands.Int _) = on_stack Int
constant_pushes (operands.Text _) = on_stack (Object (Class STRING))
constant_pushes (operands.Class _) = on_stack (Object (Class CLASS))
constant_pushes _ = []

abbrev pub field_pushes : FieldAccess → Operand → List VerificationType
field_pushes fields.GetStatic (operands.Field f) = on_stack (type_of_value f.kind)
field_pushes fields.GetStatic operands.Out = on_stack (Object (Class PRINT_STREAM))
field_pushes fields.GetField (operands.Field f) = on_stack (type_of_value f.kind)
field_pushes _ _ = []

abbrev pub result_pushes : Option ValueType → List VerificationType
result_pushes type = option_map_or (λ t. on_stack (type_of_value t)) type []

abbrev pub call_pushes : Environment → Operand → List VerificationType
call_pushes env (operands.Method m) = result_pushes (env.result m.method)
call_pushes env _ = []

abbrev pub class_pushes : ClassUse → ℕ → Operand → List VerificationType
class_pushes uses.New at (operands.Class c) = on_stack (Uninit at)
class_pushes uses.NewArray at (operands.Class c) = on_stack (Object (array_type_of c.kind))
class_pushes uses.CheckCast at (operands.Class c) = on_stack (Object c.kind)
class_pushes uses.InstanceOf at (operands.Class c) = on_stack Int
class_pushes _ at _ = []

-- what an instruction at an offset puts on the stack, the top first
abbrev pub pushes : Environment → ℕ → What Target → TypeFrame → List VerificationType
pushes env at (whats.Plain p) f = plain_pushes p f
pushes env at (whats.Int n) f = on_stack Int
pushes env at (whats.Long n) f = on_stack Long
pushes env at (whats.Constant index) f = constant_pushes (env.operand index)
pushes env at (whats.LongConstant index) f = on_stack Long
pushes env at (whats.Local access n) f = local_pushes access n f
pushes env at (whats.Field access index) f = field_pushes access (env.operand index)
pushes env at (whats.Call call index) f = call_pushes env (env.operand index)
pushes env at (whats.InterfaceCall index) f = call_pushes env (env.operand index)
pushes env at (whats.Class purpose index) f = class_pushes purpose at (env.operand index)
pushes env at (whats.NewArray element) f = on_stack (Object (Array 1 (primitive_element element)))
pushes env at _ f = []

abbrev pub stack_with : Environment → ℕ → What Target → TypeFrame → List VerificationType
stack_with env at (whats.Plain (plain.Stack operation)) f = moved_words operation f.stack
stack_with env at what f = pushes env at what f ++ drop (words_wanted (wants env what)) f.stack

-- ---- what is put into locals

-- the other half of a long or double that loses a word is Top
abbrev pub without_half : List VerificationType → ℕ → VerificationType → List VerificationType
without_half locals n Second = slice_set locals (n - 1) Top
without_half locals n Long = slice_set locals (n + 1) Top
without_half locals n Double = slice_set locals (n + 1) Top
without_half locals n _ = locals

abbrev pub with_local : List VerificationType → ℕ → VerificationType → List VerificationType
with_local locals n type = slice_set (without_half locals n (slice_index_or locals n Top)) n type

abbrev pub locals_with : What Target → TypeFrame → List VerificationType
locals_with (whats.Local (Store values.Int) n) f = with_local f.locals n Int
locals_with (whats.Local (Store values.Long) n) f = with_local (with_local f.locals n Long) (n + 1) Second
locals_with (whats.Local (Store values.Reference) n) f = with_local f.locals n (stack_at f 0)
locals_with _ f = f.locals

abbrev pub frame_with : Environment → ℕ → What Target → TypeFrame → TypeFrame
frame_with env at what f = record f { locals = locals_with what f; stack = stack_with env at what f }

-- ---- objects that are made and initialized

-- each word that is the one is the other
abbrev pub replaced_types : VerificationType → VerificationType → List VerificationType → List VerificationType
replaced_types old new types = map (λ t. if is_same_type t old then new else t) types

-- the object that <init> initializes, which is under the arguments
abbrev pub receiver_of : Environment → What Target → TypeFrame → VerificationType
receiver_of env what f = stack_at f (words_wanted (wants env what) - 1)

abbrev pub initialized : Environment → VerificationType → VerificationType
initialized env (Uninit p) = Object (env.made_at p)
initialized env UninitThis = Object (Class env.class)
initialized env type = type

-- after <init> all copies of the object are initialized
abbrev pub with_initialized : Environment → VerificationType → TypeFrame → TypeFrame
with_initialized env type f = record {
  locals = replaced_types type (initialized env type) f.locals;
  stack = replaced_types type (initialized env type) f.stack;
  flag_this_uninit = f.flag_this_uninit && not (is_same_type type UninitThis);
}

abbrev pub names_constructor : Operand → Bool
names_constructor (operands.Method m) = m.constructs
names_constructor _ = false

abbrev pub after_special : Environment → ℕ → ℕ → TypeFrame → TypeFrame
after_special env at index f =
    if names_constructor (env.operand index)
    then with_initialized env (receiver_of env (whats.Call Special index) f) (frame_with env at (whats.Call Special index) f)
    else frame_with env at (whats.Call Special index) f

-- what the same `new` made before is no longer known
abbrev pub after_new : Environment → ℕ → What Target → TypeFrame → TypeFrame
after_new env at what f = record (frame_with env at what f) { locals = replaced_types (Uninit at) Top f.locals }

abbrev pub after_what : Environment → ℕ → What Target → TypeFrame → TypeFrame
after_what env at (whats.Call Special index) f = after_special env at index f
after_what env at (whats.Class uses.New index) f = after_new env at (whats.Class uses.New index) f
after_what env at what f = frame_with env at what f

abbrev pub frame_after : Environment → Instr Target → TypeFrame → TypeFrame
frame_after env i f = after_what env i.at i.what f
