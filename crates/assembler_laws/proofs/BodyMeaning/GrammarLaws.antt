-- What a line can say of an instruction.
use Rattle.std.proofs.Common.{◌≡◌, ℕ, ◌^◌, ◌<◌, ◌≤◌, List, [], ◌∷◌, Some, FitsSigned, sym, ap, subst, ◌∙◌, inl, inr, arith}
use Rattle.std.specs.Int.{w16, w32}
use Rattle.std.specs.List.{AllByRecursion}
use Rattle.instructions.specs.declared.form.Form.{Form}
use Rattle.instructions.specs.declared.form.Form.TheVariants as forms
use Rattle.instructions.specs.Table.{Instruction, row_numbered}
use Rattle.assembler_lines.specs.declared.operation.LabelledCase.{LabelledCase}
use Rattle.assembler_lines.specs.declared.operation.Operands as lines
use Rattle.assembler_lines.specs.declared.operation.Operands.TheVariants as said
use Rattle.assembler_lines.specs.declared.operation.Operation.{Operation}
use Rattle.assembler_lines.specs.declared.word.Word.{Word}
use Rattle.assembler_lines.specs.Operands.{IsNumber, IsInteger, SaysNone, SaysOne, SaysIncrement, SaysInterfaceMethod, SaysOperands, SaysWideOperands, IsInstruction}
use Rattle.assembler_lines.specs.Switches.{AreCases}
use Rattle.assembler_laws.proofs.BodyMeaning.RowLaws.{named_is_numbered}
use Rattle.assembler_laws.proofs.BodyMeaning.NumberLaws.{number_within, integer_16, integer_32}

abbrev pub HasIntKey : LabelledCase → Type 0
HasIntKey c = FitsSigned w32 c.key

-- operands that a line can say of a form, in the ranges of their bytes
abbrev pub May : Form → lines.Operands → Type 0
May (forms.Plain plain) said.None = Unit {0}
May (forms.FixedInt n) said.None = Unit {0}
May (forms.FixedLong n) said.None = Unit {0}
May (forms.FixedLocal access local) said.None = Unit {0}
May forms.ByteInt (said.Number n) = Unit {0}
May forms.ShortInt (said.Number n) = Unit {0}
May forms.ByteConstant (said.Constant constant) = Unit {0}
May forms.Constant (said.Constant constant) = Unit {0}
May forms.LongConstant (said.Long n) = Unit {0}
May (forms.Local access) (said.Local local) = local < 2 ^ 16
May forms.Increment (said.Increment local by) = (local < 2 ^ 16) × FitsSigned w16 by
May (forms.Branch test) (said.Label label) = Unit {0}
May (forms.FarBranch test) (said.Label label) = Unit {0}
May forms.TableSwitch (said.TableSwitch low default labels) = FitsSigned w32 low
May forms.LookupSwitch (said.LookupSwitch default cases) = AllByRecursion HasIntKey cases
May (forms.Field access) (said.Member class name descriptor) = Unit {0}
May (forms.Call call) (said.Member class name descriptor) = Unit {0}
May forms.InterfaceCall (said.InterfaceMethod class name descriptor count) = count < 2 ^ 8
May (forms.Class purpose) (said.Class name) = Unit {0}
May forms.NewArray (said.NewArray element) = Unit {0}
May _ _ = ⊥

-- none are said
none_may : (form : Form) (words : List Word) (made : lines.Operands) → May form said.None → SaysNone words made → May form made
none_may form words made may says = subst (May form) (sym says.1) may

-- one is said
one_may : {A : Type 0} (form : Form) (Is : List ℕ → A → Type 0) (make : A → lines.Operands) (words : List Word) (made : lines.Operands)
    → ((written : List ℕ) (x : A) → Is written x → May form (make x)) → SaysOne Is make words made → May form made
one_may form Is make words made may says = subst (May form) (sym says.4) (may says.0 says.1 says.3)

increment_may : (most_local most : ℕ) (words : List Word) (made : lines.Operands) → most_local < 2 ^ 16 → most < 2 ^ 15 → SaysIncrement most_local most words made → May forms.Increment made
increment_may most_local most words made low few says =
    let le : says.2 ≤ most_local = number_within most_local says.0 says.2 says.5 in
    subst (May forms.Increment) (sym says.7) (omega (arith, low, le), integer_16 most says.1 says.3 few says.6)

local_may : (access : _) (most : ℕ) (words : List Word) (made : lines.Operands) → most < 2 ^ 16 → SaysOne (IsNumber most) (λ local. said.Local local) words made → May (forms.Local access) made
local_may access most words made low says =
    one_may (forms.Local access) (IsNumber most) (λ local. said.Local local) words made
    (λ written n is. let le : n ≤ most = number_within most written n is in omega (arith, low, le)) says

cases_may : (words : List Word) (cases : List LabelledCase) → AreCases words cases → AllByRecursion HasIntKey cases
cases_may words [] are = tt
cases_may words (c ∷ cases) are = (integer_32 2147483647 are.0 c.key (omega arith) are.3, cases_may are.1 cases are.4)

interface_may : (words : List Word) (made : lines.Operands) → SaysInterfaceMethod words made → May forms.InterfaceCall made
interface_may words made says =
    let few : says.3 ≤ 255 = says.5.4 in
    subst (May forms.InterfaceCall) (sym says.6) (omega (arith, few))

operands_may : (form : Form) (words : List Word) (made : lines.Operands) → SaysOperands form words made → May form made
operands_may (forms.Plain plain) words made says = none_may (forms.Plain plain) words made tt says
operands_may (forms.FixedInt n) words made says = none_may (forms.FixedInt n) words made tt says
operands_may (forms.FixedLong n) words made says = none_may (forms.FixedLong n) words made tt says
operands_may (forms.FixedLocal access local) words made says = none_may (forms.FixedLocal access local) words made tt says
operands_may forms.ByteInt words made says = one_may forms.ByteInt (IsInteger 127) (λ n. said.Number n) words made (λ written n is. tt) says
operands_may forms.ShortInt words made says = one_may forms.ShortInt (IsInteger 32767) (λ n. said.Number n) words made (λ written n is. tt) says
operands_may forms.ByteConstant words made says = subst (May forms.ByteConstant) (sym says.2) tt
operands_may forms.Constant words made says = subst (May forms.Constant) (sym says.2) tt
operands_may forms.LongConstant words made says = one_may forms.LongConstant (IsInteger 9223372036854775807) (λ n. said.Long n) words made (λ written n is. tt) says
operands_may (forms.Local access) words made says = local_may access 255 words made (omega arith) says
operands_may forms.Increment words made says = increment_may 255 127 words made (omega arith) (omega arith) says
operands_may (forms.Branch test) words made says = subst (May (forms.Branch test)) (sym says.4) tt
operands_may (forms.FarBranch test) words made says = subst (May (forms.FarBranch test)) (sym says.4) tt
operands_may forms.TableSwitch words made says = subst (May forms.TableSwitch) (sym says.made_is) (integer_32 2147483647 says.low_written says.low (omega arith) says.low_is)
operands_may forms.LookupSwitch words made says = subst (May forms.LookupSwitch) (sym says.made_is) (cases_may says.others says.cases says.cases_are)
operands_may (forms.Field access) words made says = subst (May (forms.Field access)) (sym says.4) tt
operands_may (forms.Call call) words made says = subst (May (forms.Call call)) (sym says.4) tt
operands_may forms.InterfaceCall words made says = interface_may words made says
operands_may (forms.Class purpose) words made says = subst (May (forms.Class purpose)) (sym says.4) tt
operands_may forms.NewArray words made says = subst (May forms.NewArray) (sym says.4) tt
operands_may forms.Wide words made says = absurd says

wide_may : (form : Form) (words : List Word) (made : lines.Operands) → SaysWideOperands form words made → May form made
wide_may (forms.Local access) words made says = local_may access 65535 words made (omega arith) says
wide_may forms.Increment words made says = increment_may 65535 32767 words made (omega arith) (omega arith) says
wide_may _ words made says = absurd says

-- the row of an instruction's line, and operands that it may have
pub record IsRight (operation : Operation) : Type 0 where
  pub row : Instruction
  pub numbered : row_numbered operation.number ≡ Some row
  pub may : May row.form operation.operands

right_number : (row : Instruction) (number : ℕ) → number ≡ row.number → row_numbered row.number ≡ Some row → row_numbered number ≡ Some row
right_number row number same e = ap (λ (n : ℕ). row_numbered n) same ∙ e

pub instruction_right : (words : List Word) (operation : Operation) → IsInstruction words operation → IsRight operation
instruction_right words operation is =
    elim is.says [
      | inl narrow ↦ record {
        row = is.row;
        numbered = right_number is.row operation.number narrow.number (named_is_numbered is.mnemonic is.row is.named);
        may = operands_may is.row.form is.others operation.operands narrow.operands;
      }
      | inr wide ↦ record {
        row = wide.1.row;
        numbered = right_number wide.1.row operation.number wide.1.number (named_is_numbered wide.1.mnemonic wide.1.row wide.1.named);
        may = wide_may wide.1.row.form wide.1.others operation.operands wide.1.operands;
      }
    ]
