-- Reading the operands of instructions word by word.
use Rattle.std.specs.Prelude.{ℕ, List, [], ◌∷◌, if◌then◌else◌, Option, Some, None, Result, option_map, codes, true}
use Rattle.std.specs.Str.{bytes_eq}
use Rattle.instructions.specs.declared.form.Form.{Form}
use Rattle.instructions.specs.declared.form.Form.TheVariants as forms
use Rattle.instructions.specs.declared.operation.PrimitiveType.{PrimitiveType}
use Rattle.instructions.specs.declared.operation.PrimitiveType.TheVariants as primitives
use Rattle.instructions.specs.Table.{row_named}
use Rattle.assembler_lines.specs.declared.word.LineRefusal.{LineRefusal}
use Rattle.assembler_lines.specs.declared.word.Word.{Word}
use Rattle.assembler_lines.specs.declared.word.Word.TheVariants.{Plain, Quoted}
use Rattle.assembler_lines.specs.declared.operation.Loaded.{Loaded}
use Rattle.assembler_lines.specs.declared.operation.Loaded.TheVariants as loaded
use Rattle.assembler_lines.specs.declared.operation.Operands.{Operands}
use Rattle.assembler_lines.specs.declared.operation.Operands.TheVariants as operands
use Rattle.assembler_lines.specs.declared.operation.Operation.{Operation}
use Rattle.decimal_numbers.specs.Numbers.{number_up_to, integer_up_to}
use Rattle.assembler_lines.specs.Operands.{SaysInterfaceMethod}
use Rattle.assembler_lines.specs.Front.{◌>>=◌, Gives, Answers, plain_at, only_plain, only_word}
use Rattle.assembler_lines.specs.ReadingSwitches.{table_switch_at, lookup_switch_at}

abbrev pub none_at : List Word → Option Operands
none_at [] = Some operands.None
none_at (word ∷ words) = None

-- the plain word, where it is the only word, read in this way
abbrev pub one_at : {A : Type 0} → (List ℕ → Option A) → (A → Operands) → List Word → Option Operands
one_at read make words = only_plain words >>= λ written. read written >>= λ x. Some (make x)

abbrev pub name_of : List ℕ → Option (List ℕ)
name_of written = Some written

unfoldable pub increment_at : ℕ → ℕ → List Word → Option Operands
increment_at most_local most words = do
  local_written ← plain_at words
  by_written ← only_plain local_written.1
  local ← number_up_to most_local local_written.0
  by ← integer_up_to most by_written
  Some (operands.Increment local by)

abbrev pub loaded_of : List ℕ → Word → Option Loaded
loaded_of kind (Plain written) =
    if bytes_eq kind (codes "int") then option_map (λ n. loaded.Int n) (integer_up_to 2147483647 written)
    else if bytes_eq kind (codes "class") then Some (loaded.Class written)
    else None
loaded_of kind (Quoted units) = if bytes_eq kind (codes "str") then Some (loaded.Text units) else None

unfoldable pub constant_at : List Word → Option Operands
constant_at words = do
  kind ← plain_at words
  said ← only_word kind.1
  constant ← loaded_of kind.0 said
  Some (operands.Constant constant)

-- the class, the name and the descriptor of a member
unfoldable pub member_words : List Word → Option (List ℕ × List ℕ × List ℕ)
member_words words = do
  class ← plain_at words
  name ← plain_at class.1
  descriptor ← only_plain name.1
  Some (class.0, name.0, descriptor)

abbrev pub member_at : List Word → Option Operands
member_at words = member_words words >>= λ x. Some (operands.Member x.0 x.1 x.2)

abbrev pub element_type : List ℕ → Option PrimitiveType
element_type written =
    if bytes_eq written (codes "boolean") then Some primitives.Boolean
    else if bytes_eq written (codes "char") then Some primitives.Char
    else if bytes_eq written (codes "byte") then Some primitives.Byte
    else if bytes_eq written (codes "short") then Some primitives.Short
    else if bytes_eq written (codes "int") then Some primitives.Int
    else if bytes_eq written (codes "long") then Some primitives.Long
    else None

-- what a function returned is what is read of operands
abbrev pub Reads : {X : Type 0} → Result X LineRefusal → Option X → Type 0
Reads result read = Gives (λ x. x) result read

-- a function that returned this has read the operands of this form
unfoldable pub ReadsOperands : Form → List Word → Result Operands LineRefusal → Type 0
ReadsOperands (forms.Plain plain) words result = Reads result (none_at words)
ReadsOperands (forms.FixedInt n) words result = Reads result (none_at words)
ReadsOperands (forms.FixedLong n) words result = Reads result (none_at words)
ReadsOperands (forms.FixedLocal access local) words result = Reads result (none_at words)
ReadsOperands forms.ByteInt words result = Reads result (one_at (integer_up_to 127) (λ n. operands.Number n) words)
ReadsOperands forms.ShortInt words result = Reads result (one_at (integer_up_to 32767) (λ n. operands.Number n) words)
ReadsOperands forms.ByteConstant words result = Reads result (constant_at words)
ReadsOperands forms.Constant words result = Reads result (constant_at words)
ReadsOperands forms.LongConstant words result = Reads result (one_at (integer_up_to 9223372036854775807) (λ n. operands.Long n) words)
ReadsOperands (forms.Local access) words result = Reads result (one_at (number_up_to 255) (λ n. operands.Local n) words)
ReadsOperands forms.Increment words result = Reads result (increment_at 255 127 words)
ReadsOperands (forms.Branch test) words result = Reads result (one_at name_of (λ label. operands.Label label) words)
ReadsOperands (forms.FarBranch test) words result = Reads result (one_at name_of (λ label. operands.Label label) words)
ReadsOperands forms.TableSwitch words result = Reads result (table_switch_at words)
ReadsOperands forms.LookupSwitch words result = Reads result (lookup_switch_at words)
ReadsOperands (forms.Field access) words result = Reads result (member_at words)
ReadsOperands (forms.Call call) words result = Reads result (member_at words)
ReadsOperands forms.InterfaceCall words result = Answers (SaysInterfaceMethod words) result
ReadsOperands (forms.Class purpose) words result = Reads result (one_at name_of (λ name. operands.Class name) words)
ReadsOperands forms.NewArray words result = Reads result (one_at element_type (λ element. operands.NewArray element) words)
ReadsOperands forms.Wide words result = Reads result None

-- the operands of a form in twice as many bytes
unfoldable pub wide_operands_at : Form → List Word → Option Operands
wide_operands_at (forms.Local access) words = one_at (number_up_to 65535) (λ n. operands.Local n) words
wide_operands_at forms.Increment words = increment_at 65535 32767 words
wide_operands_at _ words = None

-- the instruction after wide
unfoldable pub wide_at : List Word → Option Operation
wide_at words = do
  mnemonic ← plain_at words
  row ← row_named mnemonic.0
  operands ← wide_operands_at row.form mnemonic.1
  Some (record { number = row.number; is_wide = true; operands = operands })
