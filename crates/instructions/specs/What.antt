-- What the operands of an instruction say (JVMS SE 8, 6.5).
use Rattle.std.specs.Prelude.{ℕ, Bool, true, false, List, [], ◌∷◌, map, Option, Some, None}
use Rattle.instructions.specs.declared.operation.Plain.TheVariants as plain
use Rattle.instructions.specs.declared.operation.Test.TheVariants as tests
use Rattle.instructions.specs.declared.what.What.{What}
use Rattle.instructions.specs.declared.what.What.TheVariants as whats

-- the targets of an instruction, the default of a switch first
abbrev pub targets_of : {T : Type 0} → What T → List T
targets_of (whats.Branch test target) = target ∷ []
targets_of (whats.TableSwitch default low targets) = default ∷ targets
targets_of (whats.LookupSwitch default cases) = default ∷ map (λ c. c.target) cases
targets_of _ = []

-- whether control may fall through to the next instruction: not after a goto, a switch, a return or an athrow
abbrev pub falls_through : {T : Type 0} → What T → Bool
falls_through (whats.Plain (plain.Return value)) = false
falls_through (whats.Plain plain.Throw) = false
falls_through (whats.Branch tests.Always target) = false
falls_through (whats.TableSwitch default low targets) = false
falls_through (whats.LookupSwitch default cases) = false
falls_through _ = true

-- the index of the constant pool that an instruction has, if it has one
abbrev pub operand_of : {T : Type 0} → What T → Option ℕ
operand_of (whats.Constant index) = Some index
operand_of (whats.LongConstant index) = Some index
operand_of (whats.Field access index) = Some index
operand_of (whats.Call call index) = Some index
operand_of (whats.InterfaceCall index) = Some index
operand_of (whats.Class purpose index) = Some index
operand_of _ = None

-- what is there, as a list
abbrev pub if_there : {T : Type 0} → Option T → List T
if_there None = []
if_there (Some x) = x ∷ []
