-- The code of a method (JVMS 4.7.3), and the first that is wrong with it.
use Rattle.std.specs.Prelude.{◌≡◌, ℕ, ◌⊎◌, List, length}
use Rattle.class_walk.specs.declared.class.Constant.{Constant}
use Rattle.class_read.specs.declared.class_file.CodeAttribute.{CodeAttribute}
use Rattle.instructions.specs.declared.what.Instr.{Instr}
use Rattle.instructions.specs.declared.what.Target.{Target}
use Rattle.code_steps.specs.declared.fault.StepFault.{StepFault}
use Rattle.code_steps.specs.declared.fault.StepFault.TheVariants as faults
use Rattle.code_steps.specs.CodeArray.{IsCodeArray}
use Rattle.code_steps.specs.FirstFault.{IsFirstFault}
use Rattle.code_frames.specs.StackMap.{IsStackMap, IsFirstBadFrame}
use Rattle.code_decode.specs.declared.code.Code.{Code}
use Rattle.code_decode.specs.declared.code.Handler.{Handler}
use Rattle.code_decode.specs.declared.refusal.CodeRefusal.{CodeRefusal}
use Rattle.code_decode.specs.declared.refusal.CodeRefusal.TheVariants as refusals
use Rattle.code_decode.specs.Handlers.{AreHandlers, HandlersRefuse}

-- the code of an attribute, in a method that begins with `entry` values
pub record IsCode (pool : List Constant) (entry : ℕ) (a : CodeAttribute) (c : Code) : Type 0 where
  pub max_stack : c.max_stack ≡ a.max_stack
  pub max_locals : c.max_locals ≡ a.max_locals
  pub steps : IsCodeArray pool a.bytes c.steps
  pub handlers : AreHandlers pool c.steps (length a.bytes) a.handlers c.handlers
  pub frames : IsStackMap pool c.steps entry a.maps c.frames

abbrev pub fault_refusal : StepFault → CodeRefusal
fault_refusal faults.Length = refusals.Length
fault_refusal (faults.Opcode at) = refusals.Opcode at
fault_refusal (faults.Unsupported at) = refusals.Unsupported at
fault_refusal (faults.Cut at) = refusals.Cut at
fault_refusal (faults.Switch at) = refusals.Switch at
fault_refusal (faults.Operand at) = refusals.Operand at
fault_refusal (faults.Target at) = refusals.Target at

abbrev pub StepsRefuse : List Constant → List ℕ → CodeRefusal → Type 0
StepsRefuse pool code e = (f : StepFault) × IsFirstFault pool code f × (e ≡ fault_refusal f)

abbrev pub FramesRefuse : List Constant → List (Instr Target) → ℕ → List ℕ → CodeRefusal → Type 0
FramesRefuse pool steps entry maps e = (k : ℕ) × IsFirstBadFrame pool steps entry maps k × (e ≡ refusals.Frame k)

-- the exception table is refused, or it isn't and the stack map is
abbrev pub TablesRefuse : List Constant → ℕ → CodeAttribute → List (Instr Target) → CodeRefusal → Type 0
TablesRefuse pool entry a steps e =
    HandlersRefuse pool steps (length a.bytes) a.handlers e
    ⊎ (((handlers : List Handler) × AreHandlers pool steps (length a.bytes) a.handlers handlers) × FramesRefuse pool steps entry a.maps e)

-- the instructions are refused, or they aren't and a table is
abbrev pub CodeRefuses : List Constant → ℕ → CodeAttribute → CodeRefusal → Type 0
CodeRefuses pool entry a e =
    StepsRefuse pool a.bytes e
    ⊎ ((steps : List (Instr Target)) × IsCodeArray pool a.bytes steps × TablesRefuse pool entry a steps e)
