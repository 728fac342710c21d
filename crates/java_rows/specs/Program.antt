-- What the code of a class finds by an index of its constant pool, and what is known of methods and classes (JVMS 5.1,
-- 5.4.3). A program is the list of its decoded classes.
use Rattle.std.specs.Prelude.{ℕ, ◌==◌, ◌&&◌, Bool, true, false, nat_lt, nat_le, Option, None, Some, List, [], ◌∷◌, length, filter, option_map, option_and_then, if◌then◌else◌}
use Rattle.std.specs.Option.{option_map_or}
use Rattle.std.specs.Int.{w32, w64, cast_unsigned}
use Rattle.access_flags.specs.declared.TheConstants.{FINAL}
use Rattle.access_flags.specs.Flags.{has}
use Rattle.builtin_world.specs.declared.number.TheConstants.{COUNT, PRINT_STREAM, RUNNABLE, THREAD}
use Rattle.code_decode.specs.declared.code.ClassUnit.{ClassUnit}
use Rattle.code_decode.specs.declared.code.Code.{Code}
use Rattle.code_decode.specs.declared.code.Handler.{Handler}
use Rattle.instructions.specs.declared.operation.PrimitiveType.TheVariants.{Boolean}
use Rattle.instructions.specs.declared.what.Instr.{Instr}
use Rattle.instructions.specs.declared.what.Target.{Target}
use Rattle.link_types.specs.declared.methods.MethodBody.{MethodBody}
use Rattle.link_types.specs.declared.operands.ClassOperand.{ClassOperand}
use Rattle.link_types.specs.declared.operands.FieldOperand.{FieldOperand}
use Rattle.link_types.specs.declared.operands.MethodId.{MethodId}
use Rattle.link_types.specs.declared.operands.MethodOperand.{MethodOperand}
use Rattle.link_types.specs.declared.operands.Operand.{Operand}
use Rattle.link_types.specs.declared.operands.Operand.TheVariants as operands
use Rattle.link_rules.specs.Classes.{NamedMember, classes_of}
use Rattle.link_rules.specs.Supers.{superclasses}
use Rattle.link_rules.specs.Names.{ProgramNames, program_names, is_class_number}
use Rattle.link_rules.specs.Names.{is_subclass as is_subclass_in}
use Rattle.link_rules.specs.Layout.{is_built_in}
use Rattle.link_rules.specs.Readers.{element_class, primitive_array_number}
use Rattle.link_rules.specs.FixedObjects.{class_object, string_object}
use Rattle.link_rules.specs.Methods.{method_named, method_body, method_code, parameter_words, select_virtual}
use Rattle.link_rules.specs.Operands.{operand}
use Rattle.java_rows.specs.Numbers.{long_words}

-- ---- the run-time constant pool

-- the words of a constant, the top first: a string literal and a class are their objects (JVMS 6.5 ldc, ldc2_w)
abbrev pub constant_words : ProgramNames → Operand → Option (List ℕ)
constant_words p (operands.Int n) = Some (cast_unsigned w32 n ∷ [])
constant_words p (operands.Long n) = Some (long_words (cast_unsigned w64 n))
constant_words p (operands.Text n) = Some (string_object p n ∷ [])
constant_words p (operands.Class c) = option_map (λ n. class_object p n ∷ []) c.number
constant_words p _ = None

abbrev pub constant_at : List ClassUnit → ℕ → ℕ → Option (List ℕ)
constant_at us c at = constant_words (program_names us) (operand us c at)

abbrev pub class_operand_of : Operand → Option ClassOperand
class_operand_of (operands.Class k) = Some k
class_operand_of _ = None

-- the number of the class, and that of the arrays of it
abbrev pub class_at : List ClassUnit → ℕ → ℕ → Option ℕ
class_at us c at = option_and_then (λ (k : ClassOperand). k.number) (class_operand_of (operand us c at))

abbrev pub array_at : List ClassUnit → ℕ → ℕ → Option ℕ
array_at us c at = option_and_then (λ (k : ClassOperand). k.array) (class_operand_of (operand us c at))

abbrev pub field_of : Operand → Option FieldOperand
field_of (operands.Field f) = Some f
field_of _ = None

abbrev pub field_at : List ClassUnit → ℕ → ℕ → Option FieldOperand
field_at us c at = field_of (operand us c at)

abbrev pub method_of : Operand → Option MethodOperand
method_of (operands.Method m) = Some m
method_of _ = None

abbrev pub method_at : List ClassUnit → ℕ → ℕ → Option MethodOperand
method_at us c at = method_of (operand us c at)

-- ---- classes

-- an object of the first class passes instanceof of the second one
abbrev pub is_subclass : List ClassUnit → ℕ → ℕ → Bool
is_subclass us low high = is_subclass_in (program_names us) low high

-- a class of a file
abbrev pub is_of_file : List ClassUnit → ℕ → Bool
is_of_file us c = nat_lt COUNT c && nat_le c (length (classes_of us))

-- the class and the superclasses of it that are initialized with it, upward (JVMS 5.5): the built-in ones are ready
abbrev pub initialized_with : List ClassUnit → ℕ → List ℕ
initialized_with us c = filter (is_of_file us) (superclasses (classes_of us) c)

-- the class of the elements of an array class of references takes objects of this class
abbrev pub takes_element : List ClassUnit → ℕ → ℕ → Bool
takes_element us array c = option_map_or (is_subclass us c) (element_class (program_names us) array) false

abbrev pub is_boolean_array : List ClassUnit → ℕ → Bool
is_boolean_array us c = option_map_or (λ d. d == c) (primitive_array_number (program_names us) Boolean) false

-- ---- methods

abbrev pub method_member : List ClassUnit → MethodId → Option NamedMember
method_member us id = method_named (classes_of us) id

abbrev pub method_has : List ClassUnit → MethodId → ℕ → Bool
method_has us id flag = option_map_or (λ (m : NamedMember). has m.flags flag) (method_member us id) false

-- the words of the parameters without the receiver
abbrev pub argument_words : List ClassUnit → MethodId → ℕ
argument_words us id =
    option_map_or (λ (m : NamedMember). parameter_words (program_names us) m.descriptor) (method_member us id) 0

-- what a call of the method executes
abbrev pub body_of : List ClassUnit → MethodId → Option MethodBody
body_of us id = method_body (classes_of us) id

abbrev pub steps_of : List ClassUnit → MethodId → List (Instr Target)
steps_of us id = option_map_or (λ (c : Code). c.steps) (method_code us id) []

abbrev pub handlers_of : List ClassUnit → MethodId → List Handler
handlers_of us id = option_map_or (λ (c : Code). c.handlers) (method_code us id) []

-- a call of a method of PrintStream, of which there is one object, or of a final one of a built-in class: its
-- receiver's class isn't looked at
abbrev pub calls_without_class : List ClassUnit → MethodId → Bool
calls_without_class us id = is_built_in id.class && (if id.class == PRINT_STREAM then true else method_has us id FINAL)

-- the method that a call of a method executes on an object of a class, none where the number is no class
abbrev pub select : List ClassUnit → ℕ → MethodId → Option MethodId
select us c id = if is_class_number (program_names us) c then select_virtual (program_names us) c id else None

-- the same for a method of an interface: the object's class must implement the interface (JVMS 6.5 invokeinterface)
abbrev pub select_for : List ClassUnit → ℕ → MethodId → ℕ → Option MethodId
select_for us interface id c = if is_subclass us c interface then select us c id else None

-- `run` of Thread and of Runnable
abbrev pub thread_run : MethodId
thread_run = record { class = THREAD; method = 3 }

abbrev pub runnable_run : MethodId
runnable_run = record { class = RUNNABLE; method = 0 }
