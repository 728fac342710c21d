-- The first fault of a code array.
use Rattle.std.specs.Prelude.{◌≡◌, All, ℕ, ◌<◌, ◌≤◌, ◌⊎◌, ℤ, pos, List, ◌∷◌, ◌++◌, length, drop, IsSome, Err}
use Rattle.std.specs.List.{AllByRecursion}
use Rattle.class_walk.specs.declared.class.Constant.{Constant}
use Rattle.instructions.specs.declared.what.Instr.{Instr}
use Rattle.instructions.specs.Steps.{offsets_of, number_at}
use Rattle.code_steps.specs.declared.fault.StepFault.{StepFault}
use Rattle.code_steps.specs.declared.fault.StepFault.TheVariants.{Length, Target}
use Rattle.code_steps.specs.declared.fault.StepRefusal.{StepRefusal}
use Rattle.code_steps.specs.declared.fault.StepRefusal.TheVariants as refusals
use Rattle.instructions.specs.What.{targets_of}
use Rattle.code_steps.specs.CodeArray.{AreLaidOut}
use Rattle.code_steps.specs.Reading.{ReadsInstruction}

pub record IsSized (code : List ℕ) : Type 0 where
  pub some : 0 < length code
  pub most : length code ≤ 65535

abbrev pub IsLengthFault : List ℕ → StepFault → Type 0
IsLengthFault code f = ((length code ≡ 0) ⊎ (65535 < length code)) × (f ≡ Length)

-- there are instructions up to an offset, and reading the one there gives the fault
pub record IsInstructionFault (pool : List Constant) (code : List ℕ) (f : StepFault) : Type 0 where
  pub sized : IsSized code
  pub steps : List (Instr ℤ)
  pub at : ℕ
  pub laid : AreLaidOut pool code 0 steps at
  pub reads : ReadsInstruction pool at (drop at code) (Err f)

-- a target is the offset of an instruction
abbrev pub IsOffset : List (Instr ℤ) → ℤ → Type 0
IsOffset steps target = (offset : ℕ) × (target ≡ pos offset) × IsSome (number_at steps offset)

abbrev pub LeadsRightly : List (Instr ℤ) → Instr ℤ → Type 0
LeadsRightly steps i = AllByRecursion (IsOffset steps) (targets_of i.what)

-- there are instructions up to the end, and this one is the first with a target that is not the offset of an
-- instruction
pub record IsTargetFault (pool : List Constant) (code : List ℕ) (f : StepFault) : Type 0 where
  pub sized : IsSized code
  pub before : List (Instr ℤ)
  pub step : Instr ℤ
  pub behind : List (Instr ℤ)
  pub laid : AreLaidOut pool code 0 (before ++ step ∷ behind) (length code)
  pub right : AllByRecursion (LeadsRightly (before ++ step ∷ behind)) before
  pub stray : ¬ LeadsRightly (before ++ step ∷ behind) step
  pub fault : f ≡ Target step.at

abbrev pub IsFirstFault : List Constant → List ℕ → StepFault → Type 0
IsFirstFault pool code f = IsLengthFault code f ⊎ IsInstructionFault pool code f ⊎ IsTargetFault pool code f

-- the refusal is that memory ran out, or a fault of this kind
abbrev pub IsFaultOf : (StepFault → Type 0) → StepRefusal → Type 0
IsFaultOf Is refusals.NoMemory = Unit {0}
IsFaultOf Is (refusals.Fault f) = Is f

-- instructions from the front of the code to its end, and their offsets
pub record Lays (pool : List Constant) (code : List ℕ) (steps : List (Instr ℤ)) (offsets : List ℕ) : Type 0 where
  pub sized : IsSized code
  pub laid : AreLaidOut pool code 0 steps (length code)
  pub offsets_are : offsets ≡ offsets_of steps
  pub inside : All (λ o. o < length code) offsets
