-- What a line says of an instruction that is read (JVMS SE 8, 6.5).
use Rattle.std.specs.Prelude.{◌≡◌, ℕ, List, Some}
use Rattle.std.specs.List.{AllZip}
use Rattle.class_walk.specs.declared.class.Constant.{Constant}
use Rattle.instructions.specs.declared.form.Form.{Form}
use Rattle.instructions.specs.declared.form.Form.TheVariants as forms
use Rattle.instructions.specs.declared.what.Case.{Case}
use Rattle.instructions.specs.declared.what.Instr.{Instr}
use Rattle.instructions.specs.declared.what.Target.{Target}
use Rattle.instructions.specs.declared.what.What.{What}
use Rattle.instructions.specs.declared.what.What.TheVariants as whats
use Rattle.instructions.specs.Table.{Instruction, row_numbered}
use Rattle.assembler_lines.specs.declared.operation.LabelledCase.{LabelledCase}
use Rattle.assembler_lines.specs.declared.operation.Operands.{Operands}
use Rattle.assembler_lines.specs.declared.operation.Operands.TheVariants.{None, Number, Local, Increment, Constant as Loaded, Long, Label, TableSwitch, LookupSwitch, Member, InterfaceMethod, Class, NewArray}
use Rattle.assembler_lines.specs.declared.operation.Operation.{Operation}
use Rattle.assembler_pool.specs.Items.{long, class_named, field, method, interface_method, IsItemAt}
use Rattle.assembler_bodies.specs.Operands.{loaded_item}
use Rattle.assembler_laws.specs.BodyMeaning.Parts.{Places}

-- the target is the instruction after the label
abbrev pub LabelIsAt : Places → List ℕ → Target → Type 0
LabelIsAt places label target = places label ≡ Some target.step

abbrev pub IsCase : Places → LabelledCase → Case Target → Type 0
IsCase places said c = (c.key ≡ said.key) × LabelIsAt places said.label c.target

-- operands of a form as they are written, and the instruction with what they name
abbrev pub SaysWhat : List Constant → Places → Form → Operands → What Target → Type 0
SaysWhat pool places (forms.Plain plain) None what = what ≡ whats.Plain plain
SaysWhat pool places (forms.FixedInt n) None what = what ≡ whats.Int n
SaysWhat pool places (forms.FixedLong n) None what = what ≡ whats.Long n
SaysWhat pool places (forms.FixedLocal access local) None what = what ≡ whats.Local access local
SaysWhat pool places forms.ByteInt (Number n) what = what ≡ whats.Int n
SaysWhat pool places forms.ShortInt (Number n) what = what ≡ whats.Int n
SaysWhat pool places forms.ByteConstant (Loaded constant) what = (index : ℕ) × (what ≡ whats.Constant index) × IsItemAt pool index (loaded_item constant)
SaysWhat pool places forms.Constant (Loaded constant) what = (index : ℕ) × (what ≡ whats.Constant index) × IsItemAt pool index (loaded_item constant)
SaysWhat pool places forms.LongConstant (Long n) what = (index : ℕ) × (what ≡ whats.LongConstant index) × IsItemAt pool index (long n)
SaysWhat pool places (forms.Local access) (Local local) what = what ≡ whats.Local access local
SaysWhat pool places forms.Increment (Increment local by) what = what ≡ whats.Increment local by
SaysWhat pool places (forms.Branch test) (Label label) what = (target : Target) × (what ≡ whats.Branch test target) × LabelIsAt places label target
SaysWhat pool places (forms.FarBranch test) (Label label) what = (target : Target) × (what ≡ whats.Branch test target) × LabelIsAt places label target
SaysWhat pool places forms.TableSwitch (TableSwitch low label labels) what = (default : Target) × (targets : List Target)
    × (what ≡ whats.TableSwitch default low targets) × LabelIsAt places label default × AllZip (LabelIsAt places) labels targets
SaysWhat pool places forms.LookupSwitch (LookupSwitch label said) what = (default : Target) × (cases : List (Case Target))
    × (what ≡ whats.LookupSwitch default cases) × LabelIsAt places label default × AllZip (IsCase places) said cases
SaysWhat pool places (forms.Field access) (Member class name descriptor) what = (index : ℕ) × (what ≡ whats.Field access index) × IsItemAt pool index (field class name descriptor)
SaysWhat pool places (forms.Call call) (Member class name descriptor) what = (index : ℕ) × (what ≡ whats.Call call index) × IsItemAt pool index (method class name descriptor)
SaysWhat pool places forms.InterfaceCall (InterfaceMethod class name descriptor count) what = (index : ℕ) × (what ≡ whats.InterfaceCall index) × IsItemAt pool index (interface_method class name descriptor)
SaysWhat pool places (forms.Class purpose) (Class name) what = (index : ℕ) × (what ≡ whats.Class purpose index) × IsItemAt pool index (class_named name)
SaysWhat pool places forms.NewArray (NewArray element) what = what ≡ whats.NewArray element
SaysWhat _ _ _ _ _ = ⊥

-- a line's instruction is this one
pub record SaysInstruction (pool : List Constant) (places : Places) (said : Operation) (i : Instr Target) : Type 0 where
  pub row : Instruction
  pub numbered : row_numbered said.number ≡ Some row
  pub says : SaysWhat pool places row.form said.operands i.what
