-- The operands of instructions, as they are written (JVMS 6.5).
use Rattle.std.specs.Prelude.{◌≡◌, ℕ, ◌+◌, ◌≤◌, ◌⊎◌, ℤ, List, [], ◌∷◌, Option, Some, true, false, codes}
use Rattle.class_names.specs.declared.kind.Kind.{Kind}
use Rattle.class_names.specs.Descriptor.{IsMethodDescriptor, parameter_words_of}
use Rattle.instructions.specs.declared.form.Form.{Form}
use Rattle.instructions.specs.declared.form.Form.TheVariants as forms
use Rattle.instructions.specs.declared.operation.PrimitiveType.{PrimitiveType}
use Rattle.instructions.specs.declared.operation.PrimitiveType.TheVariants as primitives
use Rattle.instructions.specs.Table.{Instruction, row_named}
use Rattle.assembler_lines.specs.declared.word.Word.{Word}
use Rattle.assembler_lines.specs.declared.word.Word.TheVariants.{Plain, Quoted}
use Rattle.assembler_lines.specs.declared.operation.Loaded.{Loaded}
use Rattle.assembler_lines.specs.declared.operation.Loaded.TheVariants as loaded
use Rattle.assembler_lines.specs.declared.operation.Operands.{Operands}
use Rattle.assembler_lines.specs.declared.operation.Operands.TheVariants.{None, Number, Local, Increment, Constant, Long, Label, Member, InterfaceMethod, Class, NewArray}
use Rattle.assembler_lines.specs.declared.operation.Operation.{Operation}
use Rattle.assembler_lines.specs.Words.{word}
use Rattle.decimal_numbers.specs.Numbers.{number_up_to, integer_up_to}
use Rattle.assembler_lines.specs.Switches.{SaysTableSwitch, SaysLookupSwitch}

-- a number from 0 to this one
abbrev pub IsNumber : ℕ → List ℕ → ℕ → Type 0
IsNumber most written n = number_up_to most written ≡ Some n

-- a number up to this one, and down to one less than its negative
abbrev pub IsInteger : ℕ → List ℕ → ℤ → Type 0
IsInteger most written n = integer_up_to most written ≡ Some n

-- a name or a label, which is not looked into
abbrev pub IsName : List ℕ → List ℕ → Type 0
IsName written name = written ≡ name

-- an element type (JVMS 6.5, table 6.5.newarray-A)
abbrev pub IsElementType : List ℕ → PrimitiveType → Type 0
IsElementType written primitives.Boolean = written ≡ codes "boolean"
IsElementType written primitives.Char = written ≡ codes "char"
IsElementType written primitives.Byte = written ≡ codes "byte"
IsElementType written primitives.Short = written ≡ codes "short"
IsElementType written primitives.Int = written ≡ codes "int"
IsElementType written primitives.Long = written ≡ codes "long"

-- ---- operands

abbrev pub SaysNone : List Word → Operands → Type 0
SaysNone words made = (words ≡ []) × (made ≡ None)

-- one plain word
abbrev pub SaysOne : {A : Type 0} → (List ℕ → A → Type 0) → (A → Operands) → List Word → Operands → Type 0
SaysOne {A} Is make words made = (written : List ℕ) × (x : A) × (words ≡ Plain written ∷ []) × Is written x × (made ≡ make x)

-- a local, and the number that is added to it
abbrev pub SaysIncrement : ℕ → ℕ → List Word → Operands → Type 0
SaysIncrement most_local most words made =
    (local_written by_written : List ℕ) × (local : ℕ) × (by : ℤ)
    × (words ≡ Plain local_written ∷ Plain by_written ∷ []) × IsNumber most_local local_written local × IsInteger most by_written by × (made ≡ Increment local by)

-- an int, a string or a class
abbrev pub IsLoaded : List Word → Loaded → Type 0
IsLoaded words (loaded.Int n) = (written : List ℕ) × (words ≡ word "int" ∷ Plain written ∷ []) × IsInteger 2147483647 written n
IsLoaded words (loaded.Text units) = words ≡ word "str" ∷ Quoted units ∷ []
IsLoaded words (loaded.Class name) = words ≡ word "class" ∷ Plain name ∷ []

abbrev pub SaysConstant : List Word → Operands → Type 0
SaysConstant words made = (constant : Loaded) × IsLoaded words constant × (made ≡ Constant constant)

abbrev pub SaysMember : List Word → Operands → Type 0
SaysMember words made =
    (class name descriptor : List ℕ) × (words ≡ Plain class ∷ Plain name ∷ Plain descriptor ∷ []) × (made ≡ Member class name descriptor)

-- the words of a receiver and of the parameters of this method descriptor, at most 255 (JVMS 6.5, invokeinterface)
abbrev pub IsCount : List ℕ → ℕ → Type 0
IsCount descriptor count =
    (parameters : List Kind) × (returned : Option Kind) × IsMethodDescriptor descriptor parameters returned
    × (count ≡ parameter_words_of parameters + 1) × (count ≤ 255)

abbrev pub SaysInterfaceMethod : List Word → Operands → Type 0
SaysInterfaceMethod words made =
    (class name descriptor : List ℕ) × (count : ℕ)
    × (words ≡ Plain class ∷ Plain name ∷ Plain descriptor ∷ []) × IsCount descriptor count × (made ≡ InterfaceMethod class name descriptor count)

-- The operands of a form, each in the range of its bytes. Those of wide are an instruction of their own.
abbrev pub SaysOperands : Form → List Word → Operands → Type 0
SaysOperands (forms.Plain plain) words made = SaysNone words made
SaysOperands (forms.FixedInt n) words made = SaysNone words made
SaysOperands (forms.FixedLong n) words made = SaysNone words made
SaysOperands (forms.FixedLocal access local) words made = SaysNone words made
SaysOperands forms.ByteInt words made = SaysOne (IsInteger 127) (λ n. Number n) words made
SaysOperands forms.ShortInt words made = SaysOne (IsInteger 32767) (λ n. Number n) words made
SaysOperands forms.ByteConstant words made = SaysConstant words made
SaysOperands forms.Constant words made = SaysConstant words made
SaysOperands forms.LongConstant words made = SaysOne (IsInteger 9223372036854775807) (λ n. Long n) words made
SaysOperands (forms.Local access) words made = SaysOne (IsNumber 255) (λ local. Local local) words made
SaysOperands forms.Increment words made = SaysIncrement 255 127 words made
SaysOperands (forms.Branch test) words made = SaysOne IsName (λ label. Label label) words made
SaysOperands (forms.FarBranch test) words made = SaysOne IsName (λ label. Label label) words made
SaysOperands forms.TableSwitch words made = SaysTableSwitch words made
SaysOperands forms.LookupSwitch words made = SaysLookupSwitch words made
SaysOperands (forms.Field access) words made = SaysMember words made
SaysOperands (forms.Call call) words made = SaysMember words made
SaysOperands forms.InterfaceCall words made = SaysInterfaceMethod words made
SaysOperands (forms.Class purpose) words made = SaysOne IsName (λ name. Class name) words made
SaysOperands forms.NewArray words made = SaysOne IsElementType (λ element. NewArray element) words made
SaysOperands forms.Wide words made = ⊥

-- The operands of a form in twice as many bytes (JVMS 6.5, wide): only locals and iinc have such ones.
abbrev pub SaysWideOperands : Form → List Word → Operands → Type 0
SaysWideOperands (forms.Local access) words made = SaysOne (IsNumber 65535) (λ local. Local local) words made
SaysWideOperands forms.Increment words made = SaysIncrement 65535 32767 words made
SaysWideOperands _ words made = ⊥

-- ---- instructions

-- the words after the mnemonic of an instruction
pub record IsOperation (row : Instruction) (words : List Word) (operation : Operation) : Type 0 where
  pub number : operation.number ≡ row.number
  pub narrow : operation.is_wide ≡ false
  pub operands : SaysOperands row.form words operation.operands

-- the words after wide: the mnemonic of the instruction that is widened, and its operands
pub record IsWideOperation (words : List Word) (operation : Operation) : Type 0 where
  pub mnemonic : List ℕ
  pub others : List Word
  pub row : Instruction
  pub spelled : words ≡ Plain mnemonic ∷ others
  pub named : row_named mnemonic ≡ Some row
  pub number : operation.number ≡ row.number
  pub wide : operation.is_wide ≡ true
  pub operands : SaysWideOperands row.form others operation.operands

-- The words after the mnemonic of a row of the table.
abbrev pub SaysOperation : Instruction → List Word → Operation → Type 0
SaysOperation row words operation = IsOperation row words operation ⊎ ((row.form ≡ forms.Wide) × IsWideOperation words operation)

-- A mnemonic of the table, and what comes after it.
pub record IsInstruction (words : List Word) (operation : Operation) : Type 0 where
  pub mnemonic : List ℕ
  pub others : List Word
  pub row : Instruction
  pub spelled : words ≡ Plain mnemonic ∷ others
  pub named : row_named mnemonic ≡ Some row
  pub says : SaysOperation row others operation
