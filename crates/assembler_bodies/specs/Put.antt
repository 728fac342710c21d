-- What the code of a body is made of.
use Rattle.std.specs.Prelude.{◌≡◌, ℕ, ◌+◌, ◌^◌, ◌<◌, List, [], ◌∷◌, ◌++◌, length, Some}
use Rattle.instructions.specs.Table.{Instruction, row_numbered}
use Rattle.assembler_lines.specs.declared.operation.Operation.{Operation}
use Rattle.code_write.specs.declared.operands.Operands.{Operands}
use Rattle.code_write.specs.declared.operands.Written.{Written}
use Rattle.code_write.specs.Instruction.{instruction_bytes, shape, IsInRange}
use Rattle.code_write.specs.Meaning.{code_bytes}
use Rattle.code_write.specs.Frame.{Placed, frames_bytes, least_behind}
use Rattle.assembler_bodies.specs.Labels.{shape_of}
use Rattle.assembler_bodies.specs.Body.{MadeBody}

-- The instruction is at the present offset with its operands in range, and takes as many bytes as were counted for it
-- when the labels got their offsets. Nothing else changes.
pub record Puts (operation : Operation) (old new : MadeBody) : Type 0 where
  pub row : Instruction
  pub numbered : row_numbered operation.number ≡ Some row
  pub operands : Operands ℕ
  pub in_range : IsInRange (length old.code) operands
  pub shaped : shape operands ≡ shape_of row.form operation.is_wide operation.operands
  pub put : new ≡ record old { code = old.code ++ instruction_bytes (length old.code) (record { number = operation.number; operands = operands }) }
  pub room : length new.code < 2 ^ 16

-- instructions one after another, the first at this offset, each with its operands in range
abbrev pub AreInRange : ℕ → List (Written ℕ) → Type 0
AreInRange at [] = Unit {0}
AreInRange at (w ∷ others) = IsInRange at w.operands × AreInRange (at + length (instruction_bytes at w)) others

-- The code is instructions, one after another, and the stack map is full frames, one after another.
pub record IsMadeOf (body : MadeBody) : Type 0 where
  pub instructions : List (Written ℕ)
  pub code_is : body.code ≡ code_bytes 0 instructions
  pub in_range : AreInRange 0 instructions
  pub frames : List Placed
  pub frames_are : body.frames ≡ frames_bytes 0 frames
  pub count_is : body.frame_count ≡ length frames
  pub least_is : body.least ≡ least_behind 0 frames
