-- What an instruction wants of the words on top of the stack (JVMS 4.10.1.9).
use Rattle.std.specs.Prelude.{ℕ, Bool, true, false, ◌==◌, ◌||◌, ◌&&◌, None, Some, List, [], ◌∷◌, ◌++◌, map, reverse, nat_lt, sum_by, if◌then◌else◌}
use Rattle.std.specs.List.{list_any}
use Rattle.builtin_world.specs.declared.number.TheConstants.{THROWABLE}
use Rattle.instructions.specs.declared.operation.Plain.{Plain}
use Rattle.instructions.specs.declared.operation.Plain.TheVariants as plain
use Rattle.instructions.specs.declared.operation.ElementKind.{ElementKind}
use Rattle.instructions.specs.declared.operation.ElementKind.TheVariants as kinds
use Rattle.instructions.specs.declared.operation.StackOperation.{StackOperation}
use Rattle.instructions.specs.declared.operation.StackOperation.TheVariants as stack
use Rattle.instructions.specs.declared.operation.Conversion.TheVariants as conversions
use Rattle.instructions.specs.declared.operation.ValueKind.{ValueKind}
use Rattle.instructions.specs.declared.operation.ValueKind.TheVariants as values
use Rattle.instructions.specs.declared.operation.LocalAccess.{LocalAccess}
use Rattle.instructions.specs.declared.operation.LocalAccess.TheVariants as access
use Rattle.instructions.specs.declared.operation.Test.{Test}
use Rattle.instructions.specs.declared.operation.Test.TheVariants as tests
use Rattle.instructions.specs.declared.operation.FieldAccess.{FieldAccess}
use Rattle.instructions.specs.declared.operation.FieldAccess.TheVariants as fields
use Rattle.instructions.specs.declared.operation.Call.{Call}
use Rattle.instructions.specs.declared.operation.Call.TheVariants as calls
use Rattle.instructions.specs.declared.operation.ClassUse.TheVariants as uses
use Rattle.instructions.specs.declared.what.What.{What}
use Rattle.instructions.specs.declared.what.What.TheVariants as whats
use Rattle.instructions.specs.declared.what.Target.{Target}
use Rattle.link_types.specs.declared.types.ElementType.{ElementType}
use Rattle.link_types.specs.declared.types.ElementType.TheVariants as elements
use Rattle.link_types.specs.declared.types.ObjectType.{ObjectType}
use Rattle.link_types.specs.declared.types.ObjectType.TheVariants.{Class, Array}
use Rattle.link_types.specs.declared.types.ValueType.{ValueType}
use Rattle.link_types.specs.declared.types.ValueType.TheVariants as types
use Rattle.link_types.specs.declared.operands.Operand.{Operand}
use Rattle.link_types.specs.declared.operands.Operand.TheVariants as operands
use Rattle.link_types.specs.declared.operands.FieldOperand.{FieldOperand}
use Rattle.link_types.specs.declared.operands.MethodOperand.{MethodOperand}
use Rattle.type_rules.specs.declared.types.VerificationType.{VerificationType}
use Rattle.type_rules.specs.declared.types.VerificationType.TheVariants.{Int, Long, Second, Null, UninitThis, Uninit, Object}
use Rattle.type_rules.specs.Assignable.{is_object_assignable, is_same_object, is_same_element}
use Rattle.type_rules.specs.Environment.{Environment}

pub data Want : Type 0 where
  -- any word; any word that is not the second one of a long or a double
  a_word : Want
  a_whole : Want
  an_int : Want
  -- two words
  a_long : Want
  -- any reference, also to an object that is not initialized
  a_stored_reference : Want
  -- null, or an initialized object
  a_reference : Want
  a_reference_to : ObjectType → Want
  -- null, or an array of one dimension of one of these; of any kind; of references
  an_array_of : List ElementType → Want
  an_array : Want
  an_array_of_references : Want
  -- the object of a constructor whose class declares the field, or a reference to the named class
  a_receiver_to_set : ObjectType → Want
  -- a reference to the named class and to the class of the method
  a_receiver_here : ObjectType → Want
  -- an object that is not initialized, of the named class
  to_initialize : ObjectType → Want

-- ---- the table

abbrev pub element_types : ElementKind → List ElementType
element_types kinds.Int = elements.Int ∷ []
element_types kinds.Long = elements.Long ∷ []
element_types kinds.Reference = []
element_types kinds.ByteOrBoolean = elements.Byte ∷ elements.Boolean ∷ []
element_types kinds.Char = elements.Char ∷ []
element_types kinds.Short = elements.Short ∷ []

abbrev pub array_wanted : ElementKind → Want
array_wanted kinds.Reference = an_array_of_references
array_wanted kind = an_array_of (element_types kind)

abbrev pub element_wanted : ElementKind → Want
element_wanted kinds.Reference = a_reference
element_wanted kinds.Long = a_long
element_wanted _ = an_int

abbrev pub value_wanted : ValueKind → Want
value_wanted values.Int = an_int
value_wanted values.Long = a_long
value_wanted values.Reference = a_reference

abbrev pub type_wanted : ValueType → Want
type_wanted types.Long = a_long
type_wanted (types.Object t) = a_reference_to t
type_wanted _ = an_int

-- no long or double is split (JVMS 2.11.1, 6.5 pop to swap)
abbrev pub stack_wants : StackOperation → List Want
stack_wants stack.Pop = a_whole ∷ []
stack_wants stack.Pop2 = a_word ∷ a_whole ∷ []
stack_wants stack.Dup = a_whole ∷ []
stack_wants stack.DupX1 = a_whole ∷ a_whole ∷ []
stack_wants stack.DupX2 = a_whole ∷ a_word ∷ a_whole ∷ []
stack_wants stack.Dup2 = a_word ∷ a_whole ∷ []
stack_wants stack.Dup2X1 = a_word ∷ a_whole ∷ a_whole ∷ []
stack_wants stack.Dup2X2 = a_word ∷ a_whole ∷ a_word ∷ a_whole ∷ []
stack_wants stack.Swap = a_whole ∷ a_whole ∷ []

-- java/lang/Throwable
abbrev pub throwable_type : ObjectType
throwable_type = Class THROWABLE

abbrev pub plain_wants : Plain → List Want
plain_wants (plain.ArrayLoad kind) = an_int ∷ array_wanted kind ∷ []
plain_wants (plain.ArrayStore kind) = element_wanted kind ∷ an_int ∷ array_wanted kind ∷ []
plain_wants (plain.Stack operation) = stack_wants operation
plain_wants (plain.IntArithmetic _) = an_int ∷ an_int ∷ []
plain_wants (plain.LongArithmetic _) = a_long ∷ a_long ∷ []
plain_wants plain.IntNegate = an_int ∷ []
plain_wants plain.LongNegate = a_long ∷ []
plain_wants (plain.IntShift _) = an_int ∷ an_int ∷ []
plain_wants (plain.LongShift _) = an_int ∷ a_long ∷ []
plain_wants (plain.Convert conversions.LongToInt) = a_long ∷ []
plain_wants (plain.Convert _) = an_int ∷ []
plain_wants plain.LongCompare = a_long ∷ a_long ∷ []
plain_wants (plain.Return None) = []
plain_wants (plain.Return (Some kind)) = value_wanted kind ∷ []
plain_wants plain.ArrayLength = an_array ∷ []
plain_wants plain.Throw = a_reference_to throwable_type ∷ []
plain_wants plain.MonitorEnter = a_reference ∷ []
plain_wants plain.MonitorExit = a_reference ∷ []
plain_wants plain.Nop = []
plain_wants plain.Null = []

abbrev pub test_wants : Test → List Want
test_wants (tests.Zero _) = an_int ∷ []
test_wants (tests.Ints _) = an_int ∷ an_int ∷ []
test_wants tests.Same = a_reference ∷ a_reference ∷ []
test_wants tests.Different = a_reference ∷ a_reference ∷ []
test_wants tests.Null = a_reference ∷ []
test_wants tests.NonNull = a_reference ∷ []
test_wants tests.Always = []

abbrev pub setter_wanted : Environment → FieldOperand → Want
setter_wanted env f = if f.owner == env.class then a_receiver_to_set f.named else a_reference_to f.named

-- the arguments of a method that is called, the last one first
abbrev pub arguments_wanted : Environment → MethodOperand → List Want
arguments_wanted env m = map type_wanted (reverse (env.parameters m.method))

abbrev pub special_receiver : MethodOperand → Want
special_receiver m = if m.constructs then to_initialize m.named else a_receiver_here m.named

abbrev pub field_wants : Environment → FieldAccess → Operand → List Want
field_wants env fields.PutStatic (operands.Field f) = type_wanted f.kind ∷ []
field_wants env fields.GetField (operands.Field f) = a_reference_to f.named ∷ []
field_wants env fields.PutField (operands.Field f) = type_wanted f.kind ∷ setter_wanted env f ∷ []
field_wants env _ _ = []

abbrev pub call_wants : Environment → Call → Operand → List Want
call_wants env calls.Virtual (operands.Method m) = arguments_wanted env m ++ a_reference_to m.named ∷ []
call_wants env calls.Special (operands.Method m) = arguments_wanted env m ++ special_receiver m ∷ []
call_wants env calls.Static (operands.Method m) = arguments_wanted env m
call_wants env _ _ = []

abbrev pub local_wants : LocalAccess → List Want
local_wants (access.Store values.Int) = an_int ∷ []
local_wants (access.Store values.Long) = a_long ∷ []
local_wants (access.Store values.Reference) = a_stored_reference ∷ []
local_wants _ = []

-- what an instruction takes off the stack, the top first
abbrev pub wants : Environment → What Target → List Want
wants env (whats.Plain p) = plain_wants p
wants env (whats.Local access local) = local_wants access
wants env (whats.Branch test target) = test_wants test
wants env (whats.TableSwitch default low targets) = an_int ∷ []
wants env (whats.LookupSwitch default cases) = an_int ∷ []
wants env (whats.Field access index) = field_wants env access (env.operand index)
wants env (whats.Call call index) = call_wants env call (env.operand index)
wants env (whats.InterfaceCall index) = call_wants env calls.Virtual (env.operand index)
wants env (whats.Class uses.NewArray index) = an_int ∷ []
wants env (whats.Class uses.CheckCast index) = a_reference ∷ []
wants env (whats.Class uses.InstanceOf index) = a_reference ∷ []
wants env (whats.NewArray element) = an_int ∷ []
wants env _ = []

abbrev pub want_size : Want → ℕ
want_size a_long = 2
want_size _ = 1

-- how many words these are
abbrev pub words_wanted : List Want → ℕ
words_wanted ws = sum_by want_size ws

-- ---- verdicts

-- what a wanted word is: right, of a wrong type, or an object that is not initialized where one must be
pub data Verdict : Type 0 where
  right : Verdict
  wrong : Verdict
  uninitialized : Verdict

abbrev pub right_if : Bool → Verdict
right_if true = right
right_if false = wrong

-- null, or an initialized object that passes a test
abbrev pub reference_verdict : (ObjectType → Bool) → VerificationType → Verdict
reference_verdict test Null = right
reference_verdict test (Object t) = right_if (test t)
reference_verdict test UninitThis = uninitialized
reference_verdict test (Uninit p) = uninitialized
reference_verdict test _ = wrong

abbrev pub is_array_of_one : List ElementType → ObjectType → Bool
is_array_of_one xs (Array dimensions y) = dimensions == 1 && list_any (λ x. is_same_element x y) xs
is_array_of_one xs _ = false

abbrev pub is_array_type : ObjectType → Bool
is_array_type (Array dimensions x) = true
is_array_type _ = false

abbrev pub is_class_element : ElementType → Bool
is_class_element (elements.Class c) = true
is_class_element (elements.Other n) = true
is_class_element _ = false

abbrev pub is_array_of_references : ObjectType → Bool
is_array_of_references (Array dimensions x) = nat_lt 1 dimensions || (dimensions == 1 && is_class_element x)
is_array_of_references _ = false

abbrev pub is_whole : VerificationType → Bool
is_whole Second = false
is_whole _ = true

abbrev pub is_reference_type : VerificationType → Bool
is_reference_type Null = true
is_reference_type (Object t) = true
is_reference_type UninitThis = true
is_reference_type (Uninit p) = true
is_reference_type _ = false

abbrev pub is_int_word : VerificationType → Bool
is_int_word Int = true
is_int_word _ = false

-- <init> of this class or its direct superclass is called on the object of a constructor, and on what `new` made that
-- of its own class (JVMS 4.10.1.9, invokespecial)
abbrev pub initializes : Environment → ObjectType → VerificationType → Bool
initializes env named UninitThis = is_same_object named (Class env.class) || is_same_object named (Class env.super)
initializes env named (Uninit p) = is_same_object named (env.made_at p)
initializes env named _ = false

abbrev pub setter_verdict : Environment → ObjectType → VerificationType → Verdict
setter_verdict env named UninitThis = right
setter_verdict env named type = reference_verdict (λ t. is_object_assignable env.hierarchy t named) type

-- of one word
abbrev pub verdict : Environment → Want → VerificationType → Verdict
verdict env a_word type = right
verdict env a_whole type = right_if (is_whole type)
verdict env an_int type = right_if (is_int_word type)
verdict env a_long type = wrong
verdict env a_stored_reference type = right_if (is_reference_type type)
verdict env a_reference type = reference_verdict (λ t. true) type
verdict env (a_reference_to named) type = reference_verdict (λ t. is_object_assignable env.hierarchy t named) type
verdict env (an_array_of xs) type = reference_verdict (is_array_of_one xs) type
verdict env an_array type = reference_verdict is_array_type type
verdict env an_array_of_references type = reference_verdict is_array_of_references type
verdict env (a_receiver_to_set named) type = setter_verdict env named type
verdict env (a_receiver_here named) type =
    reference_verdict (λ t. is_object_assignable env.hierarchy t named && is_object_assignable env.hierarchy t (Class env.class)) type
verdict env (to_initialize named) type = right_if (initializes env named type)

-- of all of them; where the stack ends, none
abbrev pub verdicts : Environment → List Want → List VerificationType → List Verdict
verdicts env [] stack = []
verdicts env (a_long ∷ ws) (Second ∷ Long ∷ stack) = right ∷ verdicts env ws stack
verdicts env (a_long ∷ ws) (x ∷ y ∷ stack) = wrong ∷ verdicts env ws stack
verdicts env (want ∷ ws) (x ∷ stack) = verdict env want x ∷ verdicts env ws stack
verdicts env (want ∷ ws) [] = []

abbrev pub is_wrong : Verdict → Bool
is_wrong wrong = true
is_wrong _ = false

abbrev pub is_uninitialized : Verdict → Bool
is_uninitialized uninitialized = true
is_uninitialized _ = false
