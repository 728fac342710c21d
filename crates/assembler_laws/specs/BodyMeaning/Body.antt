-- What the lines of a body say of the code that is read (JVMS SE 8, 4.7.3).
use Rattle.std.specs.Prelude.{◌≡◌, ℕ, ◌++◌, List, [], Option, Some, None}
use Rattle.std.specs.List.{AllZip}
use Rattle.class_walk.specs.declared.class.Constant.{Constant}
use Rattle.class_walk.specs.Layout.{u2}
use Rattle.class_read.specs.declared.class_file.CodeAttribute.{CodeAttribute}
use Rattle.code_decode.specs.declared.code.Code.{Code}
use Rattle.assembler_lines.specs.declared.line.Room.{Room}
use Rattle.assembler_text.specs.declared.lines.Numbered.{Numbered}
use Rattle.assembler_bodies.specs.Body.{MadeBody}
use Rattle.assembler_laws.specs.BodyMeaning.Parts.{instructions_in, handlers_in, frames_in, places_in}
use Rattle.assembler_laws.specs.BodyMeaning.Instructions.{SaysInstruction}
use Rattle.assembler_laws.specs.BodyMeaning.Tables.{SaysHandler, SaysFrame}

-- The code has the room that the method's line gives it, and exactly the instructions, handlers and frames of the
-- lines, in their order. What leads to a label leads to the instruction after it.
pub record IsBodyOf (pool : List Constant) (room : Room) (lines : List Numbered) (code : Code) : Type 0 where
  pub max_stack : code.max_stack ≡ room.stack
  pub max_locals : code.max_locals ≡ room.locals
  pub instructions : AllZip (SaysInstruction pool (places_in lines)) (instructions_in lines) code.steps
  pub handlers : AllZip (SaysHandler pool (places_in lines)) (handlers_in lines) code.handlers
  pub frames : AllZip (SaysFrame pool (places_in lines) code.steps) (frames_in lines) code.frames

-- the content of the stack map of a body, or no bytes
abbrev pub maps_content : Option ℕ → ℕ → List ℕ → List ℕ
maps_content None count frames = []
maps_content (Some name) count frames = u2 count ++ frames

-- what a reader keeps of the attribute Code that a body is made to
abbrev pub attribute_of : MadeBody → CodeAttribute
attribute_of body = record {
  max_stack = body.stack;
  max_locals = body.locals;
  bytes = body.code;
  handlers = body.handlers;
  maps = maps_content body.map_name body.frame_count body.frames;
}
