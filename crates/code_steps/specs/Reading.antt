-- Reading an instruction from its front, with the first fault that is met.
use Rattle.std.specs.Prelude.{◌≡◌, ℕ, ◌+◌, ℤ, ◌-ℤ◌, Bool, true, false, not, List, [], ◌∷◌, length, take, drop, Option, Some, None, Result, Ok, Err, slice_get, nat_lt, int_lt, ◌==◌, ◌&&◌, if◌then◌else◌, MatchBool, codes, bytes_eq, IsTrue, unsigned_abs}
use Rattle.std.specs.Int.{w8, w16, w32, cast_signed}
use Rattle.byteorder.specs.Endian.{big_number}
use Rattle.class_walk.specs.declared.class.Constant.{Constant}
use Rattle.class_walk.specs.declared.class.Constant.TheVariants as constants
use Rattle.class_walk.specs.Reading.{◌>>=◌, items_at}
use Rattle.class_pool.specs.Lookup.{utf8_of, class_name_of, name_and_type_of}
use Rattle.class_names.specs.declared.kind.ParameterSize.{ParameterSize}
use Rattle.instructions.specs.declared.form.Form.{Form}
use Rattle.instructions.specs.declared.form.Form.TheVariants as forms
use Rattle.instructions.specs.declared.operation.Call.{Call as CallKind}
use Rattle.instructions.specs.declared.operation.Call.TheVariants as calls
use Rattle.instructions.specs.declared.operation.ClassUse.{ClassUse}
use Rattle.instructions.specs.declared.operation.ClassUse.TheVariants as uses
use Rattle.instructions.specs.declared.operation.FieldAccess.{FieldAccess}
use Rattle.instructions.specs.declared.operation.PrimitiveType.TheVariants as primitives
use Rattle.instructions.specs.declared.what.Case.{Case}
use Rattle.instructions.specs.declared.what.What.{What}
use Rattle.instructions.specs.declared.what.What.TheVariants.{Plain, Int, Long, Constant as Loaded, LongConstant, Local, Increment, Branch, TableSwitch, LookupSwitch, Field, Call, InterfaceCall, Class, NewArray}
use Rattle.instructions.specs.Table.{Instruction, row_numbered}
use Rattle.code_steps.specs.declared.fault.StepFault.{StepFault}
use Rattle.code_steps.specs.declared.fault.StepFault.TheVariants.{Opcode, Unsupported, Cut, Switch, Operand}
use Rattle.code_steps.specs.declared.fault.StepRefusal.{StepRefusal}
use Rattle.code_steps.specs.declared.fault.StepRefusal.TheVariants as refusals
use Rattle.code_steps.specs.Operands.{near_target, far_target, padding_of, has_dimensions, IsCount, IsInterfaceCall}

-- What a function returned, and the bytes that it left, are what is read; memory may run out anywhere.
abbrev pub Gives : {X : Type 0} → Result X StepRefusal → List ℕ → (Result (X × List ℕ) StepFault → Type 0) → Type 0
Gives (Ok x) after Reads = Reads (Ok (x, after))
Gives (Err refusals.NoMemory) after Reads = Unit {0}
Gives (Err (refusals.Fault f)) after Reads = Reads (Err f)

-- the same where a function says what is read
abbrev pub Fails : {Y : Type 0} → StepRefusal → Result Y StepFault → Type 0
Fails refusals.NoMemory read = Unit {0}
Fails (refusals.Fault f) read = read ≡ Err f

abbrev pub GivesAndLeaves : {X : Type 0} → Result X StepRefusal → List ℕ → Result (X × List ℕ) StepFault → Type 0
GivesAndLeaves (Ok x) after read = read ≡ Ok (x, after)
GivesAndLeaves (Err e) after read = Fails e read

-- The same of a function that takes no memory.
abbrev pub FailsExactly : {Y : Type 0} → StepRefusal → Result Y StepFault → Type 0
FailsExactly refusals.NoMemory read = ⊥
FailsExactly (refusals.Fault f) read = read ≡ Err f

abbrev pub GivesExactly : {X : Type 0} → Result X StepRefusal → List ℕ → Result (X × List ℕ) StepFault → Type 0
GivesExactly (Ok x) after read = read ≡ Ok (x, after)
GivesExactly (Err e) after read = FailsExactly e read

-- What a function returned is what reading gives.
abbrev pub Returns : {X : Type 0} → Result X StepRefusal → Result X StepFault → Type 0
Returns (Ok x) read = read ≡ Ok x
Returns (Err e) read = Fails e read

-- ---- bytes

abbrev pub bytes_at : ℕ → ℕ → List ℕ → Result (List ℕ × List ℕ) StepFault
bytes_at at n bytes = if nat_lt (length bytes) n then Err (Cut at) else Ok (take n bytes, drop n bytes)

-- a number of n bytes
abbrev pub number_at : ℕ → ℕ → List ℕ → Result (ℕ × List ℕ) StepFault
number_at at n bytes = do
  text ← bytes_at at n bytes
  Ok (big_number n text.0, text.1)

-- ---- the pool

abbrev pub loaded_class : ℕ → ℕ → Option (List ℕ) → Result (What ℤ) StepFault
loaded_class at index None = Err (Operand at)
loaded_class at index (Some name) = if has_dimensions 1 name then Err (Unsupported at) else Ok (Loaded index)

abbrev pub constant_in : List Constant → ℕ → ℕ → Option Constant → Result (What ℤ) StepFault
constant_in pool at index (Some (constants.Integer _)) = Ok (Loaded index)
constant_in pool at index (Some (constants.Str _)) = Ok (Loaded index)
constant_in pool at index (Some (constants.Class name)) = loaded_class at index (utf8_of (slice_get pool name))
constant_in pool at index (Some (constants.Float _)) = Err (Unsupported at)
constant_in pool at index (Some (constants.Handle _ _)) = Err (Unsupported at)
constant_in pool at index (Some (constants.MethodType _)) = Err (Unsupported at)
constant_in pool at index _ = Err (Operand at)

-- what the index of a constant makes of ldc and ldc_w
unfoldable pub constant_of : List Constant → ℕ → ℕ → Result (What ℤ) StepFault
constant_of pool at index = constant_in pool at index (slice_get pool index)

abbrev pub long_constant_in : ℕ → ℕ → Option Constant → Result (What ℤ) StepFault
long_constant_in at index (Some (constants.Long _)) = Ok (LongConstant index)
long_constant_in at index (Some (constants.Double _)) = Err (Unsupported at)
long_constant_in at index _ = Err (Operand at)

unfoldable pub long_constant_of : List Constant → ℕ → ℕ → Result (What ℤ) StepFault
long_constant_of pool at index = long_constant_in at index (slice_get pool index)

abbrev pub field_in : FieldAccess → ℕ → ℕ → Option Constant → Result (What ℤ) StepFault
field_in access at index (Some (constants.Field _ _)) = Ok (Field access index)
field_in access at index _ = Err (Operand at)

unfoldable pub field_of : List Constant → FieldAccess → ℕ → ℕ → Result (What ℤ) StepFault
field_of pool access at index = field_in access at index (slice_get pool index)

abbrev pub may_call : CallKind → List ℕ → Bool
may_call calls.Special name = not (bytes_eq name (codes "<clinit>"))
may_call calls.Virtual name = not (bytes_eq name (codes "<clinit>")) && not (bytes_eq name (codes "<init>"))
may_call calls.Static name = not (bytes_eq name (codes "<clinit>")) && not (bytes_eq name (codes "<init>"))

abbrev pub named_call : CallKind → ℕ → ℕ → Option (List ℕ × List ℕ) → Result (What ℤ) StepFault
named_call call at index None = Err (Operand at)
named_call call at index (Some member) = if may_call call member.0 then Ok (Call call index) else Err (Operand at)

abbrev pub call_in : List Constant → CallKind → ℕ → ℕ → Option Constant → Result (What ℤ) StepFault
call_in pool call at index (Some (constants.Method _ pair)) = named_call call at index (name_and_type_of pool (slice_get pool pair))
call_in pool call at index _ = Err (Operand at)

unfoldable pub call_of : List Constant → CallKind → ℕ → ℕ → Result (What ℤ) StepFault
call_of pool call at index = call_in pool call at index (slice_get pool index)

abbrev pub may_use : ClassUse → List ℕ → Bool
may_use uses.NewArray name = not (has_dimensions 255 name)
may_use uses.New name = true
may_use uses.CheckCast name = true
may_use uses.InstanceOf name = true

abbrev pub class_named : ClassUse → ℕ → ℕ → Option (List ℕ) → Result (What ℤ) StepFault
class_named purpose at index None = Err (Operand at)
class_named purpose at index (Some name) = if may_use purpose name then Ok (Class purpose index) else Err (Operand at)

unfoldable pub class_of : List Constant → ClassUse → ℕ → ℕ → Result (What ℤ) StepFault
class_of pool purpose at index = class_named purpose at index (class_name_of pool (slice_get pool index))

-- the index of the name and descriptor of an interface method
abbrev pub interface_pair_in : Option Constant → Option ℕ
interface_pair_in (Some (constants.IfaceMethod _ pair)) = Some pair
interface_pair_in _ = None

-- parameters of this size, and a receiver, take count words
abbrev pub has_words : Option ParameterSize → ℕ → Bool
has_words None count = false
has_words (Some size) count = count == size.words + 1

abbrev pub IsCountIn : Option (List ℕ) → ℕ → Type 0
IsCountIn None count = ⊥
IsCountIn (Some descriptor) count = IsCount descriptor count

-- invokeinterface may call this member with this count and this last byte
abbrev pub IsInterfaceMember : Option (List ℕ × List ℕ) → ℕ → ℕ → Type 0
IsInterfaceMember None count last = ⊥
IsInterfaceMember (Some member) count last = IsTrue (may_call calls.Virtual member.0) × IsCount member.1 count × (last ≡ 0)

-- float and double have the codes 6 and 7
unfoldable pub new_array_of : ℕ → ℕ → Result (What ℤ) StepFault
new_array_of at code =
    if code == 4 then Ok (NewArray primitives.Boolean) else
    if code == 5 then Ok (NewArray primitives.Char) else
    if code == 6 then Err (Unsupported at) else
    if code == 7 then Err (Unsupported at) else
    if code == 8 then Ok (NewArray primitives.Byte) else
    if code == 9 then Ok (NewArray primitives.Short) else
    if code == 10 then Ok (NewArray primitives.Int) else
    if code == 11 then Ok (NewArray primitives.Long) else Err (Operand at)

-- ---- operands

abbrev pub one_at : ℕ → ℕ → (ℕ → Result (What ℤ) StepFault) → List ℕ → Result (What ℤ × List ℕ) StepFault
one_at at n made bytes = do
  x ← number_at at n bytes
  what ← made x.0
  Ok (what, x.1)

abbrev pub two_at : ℕ → ℕ → (ℕ → ℕ → What ℤ) → List ℕ → Result (What ℤ × List ℕ) StepFault
two_at at n made bytes = do
  x ← number_at at n bytes
  y ← number_at at n x.1
  Ok (made x.0 y.0, y.1)

unfoldable pub target_at : ℕ → List ℕ → Result (ℤ × List ℕ) StepFault
target_at at bytes = do
  distance ← number_at at 4 bytes
  Ok (far_target at distance.0, distance.1)

unfoldable pub key_at : ℕ → List ℕ → Result (ℤ × List ℕ) StepFault
key_at at bytes = do
  n ← number_at at 4 bytes
  Ok (cast_signed w32 n.0, n.1)

unfoldable pub case_at : ℕ → List ℕ → Result (Case ℤ × List ℕ) StepFault
case_at at bytes = do
  key ← key_at at bytes
  target ← target_at at key.1
  Ok (record { key = key.0; target = target.0 }, target.1)

-- how many keys there are from the lowest to the highest
abbrev pub keys_between : ℤ → ℤ → ℕ
keys_between low high = unsigned_abs (high -ℤ low) + 1

unfoldable pub table_switch_at : ℕ → List ℕ → Result (What ℤ × List ℕ) StepFault
table_switch_at at bytes = do
  padding ← bytes_at at (padding_of at) bytes
  default ← target_at at padding.1
  low ← key_at at default.1
  high ← key_at at low.1
  if int_lt high.0 low.0 then Err (Switch at) else (do
    targets ← items_at (target_at at) (keys_between low.0 high.0) high.1
    Ok (TableSwitch default.0 low.0 targets.0, targets.1))

abbrev pub is_below : Case ℤ → Case ℤ → Bool
is_below a b = int_lt a.key b.key

-- whether the keys rise
unfoldable pub rise : List (Case ℤ) → Bool
rise [] = true
rise (a ∷ []) = true
rise (a ∷ b ∷ cases) = is_below a b && rise (b ∷ cases)

unfoldable pub lookup_switch_at : ℕ → List ℕ → Result (What ℤ × List ℕ) StepFault
lookup_switch_at at bytes = do
  padding ← bytes_at at (padding_of at) bytes
  default ← target_at at padding.1
  count ← number_at at 4 default.1
  cases ← items_at (case_at at) count.0 count.1
  if rise cases.0 then Ok (LookupSwitch default.0 cases.0, cases.1) else Err (Switch at)

-- operands of a form in twice as many bytes
abbrev pub widened_form_at : ℕ → Form → List ℕ → Result (What ℤ × List ℕ) StepFault
widened_form_at at (forms.Local access) bytes = one_at at 2 (λ local. Ok (Local access local)) bytes
widened_form_at at forms.Increment bytes = two_at at 2 (λ local by. Increment local (cast_signed w16 by)) bytes
widened_form_at at _ bytes = Err (Operand at)

-- the operands after the number of the instruction that wide widens
abbrev pub widened_at : ℕ → Option Instruction → List ℕ → Result (What ℤ × List ℕ) StepFault
widened_at at None bytes = Err (Operand at)
widened_at at (Some row) bytes = widened_form_at at row.form bytes

unfoldable pub wide_at : ℕ → List ℕ → Result (What ℤ × List ℕ) StepFault
wide_at at bytes = do
  number ← number_at at 1 bytes
  widened_at at (row_numbered number.0) number.1

-- the index, the count and the last byte of invokeinterface
abbrev pub interface_call_at : ℕ → List ℕ → Result ((ℕ × ℕ × ℕ) × List ℕ) StepFault
interface_call_at at bytes = do
  index ← number_at at 2 bytes
  count ← number_at at 1 index.1
  last ← number_at at 1 count.1
  Ok ((index.0, count.0, last.0), last.1)

abbrev pub ChecksInterfaceCall : List Constant → ℕ → Result ((ℕ × ℕ × ℕ) × List ℕ) StepFault → Result (What ℤ × List ℕ) StepFault → Type 0
ChecksInterfaceCall pool at (Err f) read = read ≡ Err f
ChecksInterfaceCall pool at (Ok x) (Ok y) = IsInterfaceCall pool x.0.0 x.0.1 x.0.2 × (y ≡ (InterfaceCall x.0.0, x.1))
ChecksInterfaceCall pool at (Ok x) (Err f) = (¬ IsInterfaceCall pool x.0.0 x.0.1 x.0.2) × (f ≡ Operand at)

-- reading the operands of this form at these bytes gives this
unfoldable pub ReadsOperands : List Constant → ℕ → Form → List ℕ → Result (What ℤ × List ℕ) StepFault → Type 0
ReadsOperands pool at (forms.Plain plain) bytes read = read ≡ Ok (Plain plain, bytes)
ReadsOperands pool at (forms.FixedInt n) bytes read = read ≡ Ok (Int n, bytes)
ReadsOperands pool at (forms.FixedLong n) bytes read = read ≡ Ok (Long n, bytes)
ReadsOperands pool at (forms.FixedLocal access local) bytes read = read ≡ Ok (Local access local, bytes)
ReadsOperands pool at forms.ByteInt bytes read = read ≡ one_at at 1 (λ n. Ok (Int (cast_signed w8 n))) bytes
ReadsOperands pool at forms.ShortInt bytes read = read ≡ one_at at 2 (λ n. Ok (Int (cast_signed w16 n))) bytes
ReadsOperands pool at forms.ByteConstant bytes read = read ≡ one_at at 1 (constant_of pool at) bytes
ReadsOperands pool at forms.Constant bytes read = read ≡ one_at at 2 (constant_of pool at) bytes
ReadsOperands pool at forms.LongConstant bytes read = read ≡ one_at at 2 (long_constant_of pool at) bytes
ReadsOperands pool at (forms.Local access) bytes read = read ≡ one_at at 1 (λ local. Ok (Local access local)) bytes
ReadsOperands pool at forms.Increment bytes read = read ≡ two_at at 1 (λ local by. Increment local (cast_signed w8 by)) bytes
ReadsOperands pool at (forms.Branch test) bytes read = read ≡ one_at at 2 (λ distance. Ok (Branch test (near_target at distance))) bytes
ReadsOperands pool at (forms.FarBranch test) bytes read = read ≡ one_at at 4 (λ distance. Ok (Branch test (far_target at distance))) bytes
ReadsOperands pool at forms.TableSwitch bytes read = read ≡ table_switch_at at bytes
ReadsOperands pool at forms.LookupSwitch bytes read = read ≡ lookup_switch_at at bytes
ReadsOperands pool at (forms.Field access) bytes read = read ≡ one_at at 2 (field_of pool access at) bytes
ReadsOperands pool at (forms.Call call) bytes read = read ≡ one_at at 2 (call_of pool call at) bytes
ReadsOperands pool at forms.InterfaceCall bytes read = ChecksInterfaceCall pool at (interface_call_at at bytes) read
ReadsOperands pool at (forms.Class purpose) bytes read = read ≡ one_at at 2 (class_of pool purpose at) bytes
ReadsOperands pool at forms.NewArray bytes read = read ≡ one_at at 1 (new_array_of at) bytes
ReadsOperands pool at forms.Wide bytes read = read ≡ wide_at at bytes

abbrev pub ReadsRow : List Constant → ℕ → Option Instruction → List ℕ → Result (What ℤ × List ℕ) StepFault → Type 0
ReadsRow pool at None bytes read = read ≡ Err (Unsupported at)
ReadsRow pool at (Some row) bytes read = ReadsOperands pool at row.form bytes read

-- reading the instruction at these bytes, whose first is at this offset, gives this; no instruction has a number above 201 (JVMS 6.5)
unfoldable pub ReadsInstruction : List Constant → ℕ → List ℕ → Result (What ℤ × List ℕ) StepFault → Type 0
ReadsInstruction pool at [] read = ⊥
ReadsInstruction pool at (number ∷ bytes) read =
    MatchBool (nat_lt 201 number) (read ≡ Err (Opcode at)) (ReadsRow pool at (row_numbered number) bytes read)
