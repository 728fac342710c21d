-- The code of a method, made line by line (JVMS SE 8, 4.7.3).
use Rattle.std.specs.Prelude.{ℕ, ◌+◌, ◌-◌, ◌^◌, ℤ, Bool, false, ◌==◌, ◌&&◌, nat_lt, nat_le, if◌then◌else◌, List, [], ◌∷◌, ◌++◌, length, Option, Some, None, codes}
use Rattle.std.specs.Int.{w16, w32}
use Rattle.class_walk.specs.declared.class.RawHandler.{RawHandler}
use Rattle.class_walk.specs.declared.class.RawAttribute.{RawAttribute}
use Rattle.class_walk.specs.declared.class.RawCode.{RawCode}
use Rattle.class_walk.specs.Layout.{u2, code_spelling}
use Rattle.instructions.specs.declared.what.Case.{Case}
use Rattle.instructions.specs.Table.{row_numbered}
use Rattle.assembler_lines.specs.declared.line.Room.{Room}
use Rattle.assembler_lines.specs.declared.line.Line.{Line}
use Rattle.assembler_lines.specs.declared.line.Line.TheVariants.{Label, Handler, Instruction, Frame}
use Rattle.assembler_lines.specs.declared.operation.Operation.{Operation}
use Rattle.assembler_lines.specs.declared.frame.FrameItem.{FrameItem}
use Rattle.assembler_lines.specs.declared.frame.FrameItem.TheVariants as items
use Rattle.assembler_pool.specs.Items.{text, class_named}
use Rattle.code_write.specs.declared.operands.Operands.{Operands}
use Rattle.code_write.specs.declared.operands.Operands.TheVariants.{Absent, Byte, Short, ByteIndex, Index, Local, WideLocal, Increment, WideIncrement, Near, Far, TableSwitch, LookupSwitch, InterfaceCall, NewArray}
use Rattle.code_write.specs.declared.operands.Written.{Written}
use Rattle.code_write.specs.declared.frames.VerificationType.{VerificationType}
use Rattle.code_write.specs.declared.frames.VerificationType.TheVariants as types
use Rattle.code_write.specs.Instruction.{instruction_bytes, distance, highest, IsFar, IsTableInRange, IsCaseInRange, IsLookupInRange, IsInRange}
use Rattle.code_write.specs.Frame.{full_frame}
use Rattle.assembler_bodies.specs.declared.labels.Mark.{Mark}
use Rattle.assembler_text.specs.declared.lines.Numbered.{Numbered}
use Rattle.assembler_bodies.specs.Tests.{Test, known, like, both, less, fits_signed, every}
use Rattle.assembler_bodies.specs.Making.{Making, ◌>>=◌, only, each_made, used}
use Rattle.assembler_bodies.specs.Labels.{Marks}
use Rattle.assembler_bodies.specs.Offsets.{short_offset_of}
use Rattle.assembler_bodies.specs.Operands.{operands_of}

-- what a body is made to so far
pub record MadeBody : Type 0 where
  -- the words for operands and for locals
  pub stack : ℕ
  pub locals : ℕ
  pub code : List ℕ
  pub handlers : List RawHandler
  -- the index of the name of the stack map, and its frames one after another
  pub map_name : Option ℕ
  pub frames : List ℕ
  pub frame_count : ℕ
  -- the least offset that the next frame may have
  pub least : ℕ

abbrev pub begun : Room → MadeBody
begun room = record { stack = room.stack; locals = room.locals; code = []; handlers = []; map_name = None; frames = []; frame_count = 0; least = 0 }

-- ---- instructions

-- the distance to a target has room in four bytes
abbrev pub is_far_in_range : (at target : ℕ) → Test (IsFar at target)
is_far_in_range at target = fits_signed w32 (distance at target)

abbrev pub is_table_in_range : (at default : ℕ) (low : ℤ) (targets : List ℕ) → Test (IsTableInRange at default low targets)
is_table_in_range at default low targets = like
    (λ h. record { count = h.0; highest_fits = h.1.0; default_fits = h.1.1.0; targets_fit = h.1.1.1 })
    (λ h. (h.count, (h.highest_fits, (h.default_fits, h.targets_fit))))
    (both (less (length targets) (2 ^ 32)) (both (fits_signed w32 (highest low targets)) (both (is_far_in_range at default) (every (IsFar at) (is_far_in_range at) targets))))

abbrev pub is_lookup_in_range : (at default : ℕ) (cases : List (Case ℕ)) → Test (IsLookupInRange at default cases)
is_lookup_in_range at default cases = like
    (λ h. record { count = h.0; default_fits = h.1.0; cases_fit = h.1.1 })
    (λ h. (h.count, (h.default_fits, h.cases_fit)))
    (both (less (length cases) (2 ^ 32)) (both (is_far_in_range at default) (every (IsCaseInRange at) (λ c. is_far_in_range at c.target) cases)))

-- what is computed for an operand of an instruction at this offset has room in its bytes
unfoldable pub is_in_range : (at : ℕ) (operands : Operands ℕ) → Test (IsInRange at operands)
is_in_range at Absent = known tt
is_in_range at (Byte n) = known tt
is_in_range at (Short n) = known tt
is_in_range at (ByteIndex index) = known tt
is_in_range at (Index index) = known tt
is_in_range at (Local local) = known tt
is_in_range at (WideLocal local) = known tt
is_in_range at (Increment local by) = known tt
is_in_range at (WideIncrement local by) = known tt
is_in_range at (Near target) = fits_signed w16 (distance at target)
is_in_range at (Far target) = is_far_in_range at target
is_in_range at (TableSwitch default low targets) = is_table_in_range at default low targets
is_in_range at (LookupSwitch default cases) = is_lookup_in_range at default cases
is_in_range at (InterfaceCall index count) = known tt
is_in_range at (NewArray element) = known tt

-- the code with one more instruction at its end; it has at most 65,535 bytes (JVMS 4.7.3)
unfoldable pub code_with : Written ℕ → List ℕ → Option (List ℕ)
code_with written code =
    if (is_in_range (length code) written.operands).holds && nat_lt (length (code ++ instruction_bytes (length code) written)) (2 ^ 16)
    then Some (code ++ instruction_bytes (length code) written)
    else None

abbrev pub with_code : MadeBody → Option (List ℕ) → Option MadeBody
with_code body None = None
with_code body (Some code) = Some (record body { code = code })

unfoldable pub with_instruction : Marks → Operation → MadeBody → Making MadeBody
with_instruction marks operation body = do
  row ← only (row_numbered operation.number)
  operands ← operands_of marks row.form operation.is_wide operation.operands
  only (with_code body (code_with (record { number = operation.number; operands = operands }) body.code))

-- ---- handlers

-- the class that is caught, or 0 for any (JVMS 4.7.3)
unfoldable pub caught : Option (List ℕ) → Making ℕ
caught None = only (Some 0)
caught (Some class) = used (class_named class)

-- the exception table has at most 65,535 entries (JVMS 4.7.3)
unfoldable pub put_handler : RawHandler → MadeBody → Option MadeBody
put_handler handler body =
    if nat_lt (length body.handlers) 65535 then Some (record body { handlers = body.handlers ++ handler ∷ [] }) else None

unfoldable pub with_handler : Marks → List ℕ → List ℕ → List ℕ → Option (List ℕ) → MadeBody → Making MadeBody
with_handler marks from to at class body = do
  first ← only (short_offset_of marks from)
  end ← only (short_offset_of marks to)
  handler ← only (short_offset_of marks at)
  kind ← caught class
  only (put_handler (record { from = first; to = end; at = handler; kind = kind }) body)

-- ---- frames

unfoldable pub type_of : Marks → FrameItem → Making VerificationType
type_of marks items.Top = only (Some types.Top)
type_of marks items.Int = only (Some types.Int)
type_of marks items.Long = only (Some types.Long)
type_of marks items.Null = only (Some types.Null)
type_of marks items.This = only (Some types.UninitThis)
type_of marks (items.New label) = do
  at ← only (short_offset_of marks label)
  only (Some (types.Uninit at))
type_of marks (items.Class name) = do
  index ← used (class_named name)
  only (Some (types.Object index))

-- the name of the attribute is made at the first frame
unfoldable pub map_name_of : Option ℕ → Making ℕ
map_name_of (Some name) = only (Some name)
map_name_of None = used (text (codes "StackMapTable"))

-- A frame comes after those before it. There are at most 65,535 frames, with at most 65,535 types in each list. Its
-- delta counts from the least offset that it may have (JVMS 4.7.4).
unfoldable pub put_frame : ℕ → List VerificationType → List VerificationType → MadeBody → Option MadeBody
put_frame name locals stack body =
    let at = length body.code in
    if nat_le body.least at && (nat_lt body.frame_count 65535 && (nat_lt (length locals) (2 ^ 16) && nat_lt (length stack) (2 ^ 16)))
    then Some (record body {
      map_name = Some name;
      frames = body.frames ++ full_frame (at - body.least) locals stack;
      frame_count = body.frame_count + 1;
      least = at + 1;
    })
    else None

unfoldable pub with_frame : Marks → List FrameItem → List FrameItem → MadeBody → Making MadeBody
with_frame marks locals stack body = do
  name ← map_name_of body.map_name
  local_types ← each_made (type_of marks) locals
  stack_types ← each_made (type_of marks) stack
  only (put_frame name local_types stack_types body)

-- ---- lines

-- whether this line is the first one of a label
abbrev pub is_first_at : ℕ → Option Mark → Bool
is_first_at number None = false
is_first_at number (Some mark) = mark.line == number

abbrev pub step_of : Marks → ℕ → Option Line → MadeBody → Making MadeBody
step_of marks number (Some (Label name)) body = only (if is_first_at number (marks name) then Some body else None)
step_of marks number (Some (Instruction operation)) body = with_instruction marks operation body
step_of marks number (Some (Handler from to at class)) body = with_handler marks from to at class body
step_of marks number (Some (Frame locals stack)) body = with_frame marks locals stack body
step_of marks number _ body = only None

-- a line of a body
abbrev pub step : Marks → Numbered → MadeBody → Making MadeBody
step marks numbered body = step_of marks numbered.number numbered.line body

-- lines of a body, one after another
abbrev pub steps : Marks → List Numbered → MadeBody → Making MadeBody
steps marks [] body = only (Some body)
steps marks (numbered ∷ lines) body = do
  next ← step marks numbered body
  steps marks lines next

-- ---- the end

-- the stack map, where there are frames: how many, and the frames (JVMS 4.7.4)
abbrev pub maps_of : Option ℕ → ℕ → List ℕ → List RawAttribute
maps_of None count frames = []
maps_of (Some name) count frames = record { at = 0; name = name; content = u2 count ++ frames } ∷ []

abbrev pub code_of : MadeBody → RawCode
code_of body = record {
  max_stack = body.stack;
  max_locals = body.locals;
  bytes = body.code;
  handlers = body.handlers;
  attributes = maps_of body.map_name body.frame_count body.frames;
}

-- the content of the attribute Code, which has less than 2^32 bytes (JVMS 4.7)
unfoldable pub content : MadeBody → Option (List ℕ)
content body = if nat_lt (length (code_spelling (code_of body))) (2 ^ 32) then Some (code_spelling (code_of body)) else None
