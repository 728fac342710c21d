-- The parts of a body, as its lines say them, in order.
use Rattle.std.specs.Prelude.{ℕ, ◌+◌, if◌then◌else◌, List, [], ◌∷◌, Option, Some, None}
use Rattle.assembler_lines.specs.declared.frame.FrameItem.{FrameItem}
use Rattle.assembler_lines.specs.declared.line.Line.{Line}
use Rattle.assembler_lines.specs.declared.line.Line.TheVariants.{Instruction, Handler, Frame}
use Rattle.assembler_lines.specs.declared.operation.Operation.{Operation}
use Rattle.assembler_lines.specs.Lines.{IsLine}
use Rattle.assembler_text.specs.declared.lines.Numbered.{Numbered}
use Rattle.assembler_bodies.specs.Labels.{is_label}

-- some bytes say this line
abbrev pub IsSaid : Option Line → Type 0
IsSaid None = ⊥
IsSaid (Some line) = (text : List ℕ) × IsLine text line

abbrev pub IsSaidAt : Numbered → Type 0
IsSaidAt numbered = IsSaid numbered.line

-- an exception handler: the labels of its range and of its first instruction, and the class that it catches, or none for any
pub record SaidHandler : Type 0 where
  pub from : List ℕ
  pub to : List ℕ
  pub at : List ℕ
  pub class : Option (List ℕ)

-- a frame, and how many instructions come before it
pub record SaidFrame : Type 0 where
  pub step : ℕ
  pub locals : List FrameItem
  pub stack : List FrameItem

-- how many instructions come before the next line, where n come before this one
abbrev pub steps_behind : ℕ → Option Line → ℕ
steps_behind n (Some (Instruction operation)) = n + 1
steps_behind n _ = n

abbrev pub with_instruction : Option Line → List Operation → List Operation
with_instruction (Some (Instruction operation)) others = operation ∷ others
with_instruction _ others = others

abbrev pub instructions_in : List Numbered → List Operation
instructions_in [] = []
instructions_in (numbered ∷ lines) = with_instruction numbered.line (instructions_in lines)

abbrev pub with_handler : Option Line → List SaidHandler → List SaidHandler
with_handler (Some (Handler from to at class)) others = record { from = from; to = to; at = at; class = class } ∷ others
with_handler _ others = others

abbrev pub handlers_in : List Numbered → List SaidHandler
handlers_in [] = []
handlers_in (numbered ∷ lines) = with_handler numbered.line (handlers_in lines)

abbrev pub with_frame : ℕ → Option Line → List SaidFrame → List SaidFrame
with_frame n (Some (Frame locals stack)) others = record { step = n; locals = locals; stack = stack } ∷ others
with_frame n _ others = others

-- the frames of lines that have n instructions before them
abbrev pub frames_from : ℕ → List Numbered → List SaidFrame
frames_from n [] = []
frames_from n (numbered ∷ lines) = with_frame n numbered.line (frames_from (steps_behind n numbered.line) lines)

abbrev pub frames_in : List Numbered → List SaidFrame
frames_in lines = frames_from 0 lines

-- how many instructions come before each label
abbrev pub Places : Type 0
Places = List ℕ → Option ℕ

abbrev pub places_from : ℕ → List Numbered → Places
places_from n [] name = None
places_from n (numbered ∷ lines) name =
    if is_label name numbered.line then Some n else places_from (steps_behind n numbered.line) lines name

abbrev pub places_in : List Numbered → Places
places_in lines = places_from 0 lines
