-- A body that is made and read is what its lines say.
use Rattle.std.proofs.Common.{◌≡◌, ℕ, ◌+◌, ◌^◌, ◌<◌, true, List, ◌∷◌, ◌++◌, length, map, Some, sym, ap, subst, ◌∙◌, arith}
use Rattle.std.specs.List.{AllByRecursion}
use Rattle.class_walk.specs.declared.class.Constant.{Constant}
use Rattle.class_walk.specs.declared.class.RawHandler.{RawHandler}
use Rattle.instructions.specs.declared.what.Instr.{Instr}
use Rattle.instructions.specs.declared.what.Target.{Target}
use Rattle.instructions.specs.Steps.{number_at}
use Rattle.code_steps.specs.CodeArray.{by_offsets, AreLaidOut}
use Rattle.code_decode.specs.declared.code.Code.{Code}
use Rattle.code_decode.specs.Handlers.{AreHandlers}
use Rattle.code_decode.specs.Code.{IsCode}
use Rattle.assembler_lines.specs.declared.line.Room.{Room}
use Rattle.assembler_text.specs.declared.lines.Numbered.{Numbered}
use Rattle.code_write.specs.declared.operands.Written.{Written}
use Rattle.code_write.specs.Meaning.{code_bytes, AreMeant}
use Rattle.assembler_pool.specs.Uses.{Extends}
use Rattle.assembler_bodies.specs.declared.labels.Mark.{Mark}
use Rattle.assembler_bodies.specs.Labels.{Marks, is_end, marks_in}
use Rattle.assembler_bodies.specs.Offsets.{offset_of}
use Rattle.assembler_bodies.specs.Body.{MadeBody, begun, steps}
use Rattle.assembler_laws.specs.WrittenCode.Frames.{AreAsPlaced}
use Rattle.assembler_laws.proofs.WrittenCode.CodeLaws.{only_written_code}
use Rattle.assembler_laws.proofs.WrittenCode.FrameLaws.{only_written_frames}
use Rattle.assembler_laws.specs.BodyMeaning.Parts.{IsSaidAt, Places, instructions_in, handlers_in, frames_in, places_in}
use Rattle.assembler_laws.specs.BodyMeaning.Body.{IsBodyOf, attribute_of}
use Rattle.assembler_laws.proofs.BodyMeaning.PlaceLaws.{Stands, end_is, as_many, number_is}
use Rattle.assembler_bodies.proofs.ShapeLaws.{found_parts}
use Rattle.assembler_laws.proofs.BodyMeaning.WritesLaws.{Leads}
use Rattle.assembler_laws.proofs.BodyMeaning.MeaningLaws.{instructions_say}
use Rattle.assembler_laws.proofs.BodyMeaning.TableReads.{handlers_say, frames_say, map_read}
use Rattle.assembler_laws.proofs.BodyMeaning.PartLaws.{HasPlace, Grows}
use Rattle.assembler_laws.proofs.BodyMeaning.LineLaws.{lines_grow}

-- the mark of a label that leads to an offset
mark_of : (marks : Marks) (label : List ℕ) (offset : ℕ) → Leads marks label offset → (mark : Mark) × (marks label ≡ Some mark) × (mark.offset ≡ offset)
unfolding offset_of
mark_of marks label offset e =
    let p = found_parts (marks label) (λ m. Some m.offset) offset e in
    let is = p.next_is in
    (p.value, p.first_is, cc)

module _ (marks : Marks) (places : Places) (pool : List Constant) (ws : List (Written ℕ)) (read : List (Instr Target)) (meant : AreMeant pool 0 ws (map by_offsets read))
    (labels : (name : List ℕ) (mark : Mark) → marks name ≡ Some mark → HasPlace 0 0 ws places name mark) where
  -- a label that leads to an instruction comes right before it
  leads_before : (label : List ℕ) (offset j : ℕ) → Leads marks label offset → number_at read offset ≡ Some j → places label ≡ Some j
  leads_before label offset j leads e =
      let mark = mark_of marks label offset leads in
      let place = labels label mark.0 mark.1 in
      let here : Stands 0 0 ws offset place.0 = subst (λ (o : ℕ). Stands 0 0 ws o place.0) mark.2 place.2 in
      let same : j ≡ place.0 = number_is pool ws read meant offset place.0 j here e in
      place.1 ∙ ap (λ (k : ℕ). Some k) (sym same)

  -- a label at the code's end comes after all instructions
  leads_to_end : (size : ℕ) → size ≡ length (code_bytes 0 ws) → (label : List ℕ) (offset : ℕ) → Leads marks label offset → offset ≡ size → places label ≡ Some (length read)
  leads_to_end size size_is label offset leads e =
      let mark = mark_of marks label offset leads in
      let place = labels label mark.0 mark.1 in
      let here : Stands 0 0 ws offset place.0 = subst (λ (o : ℕ). Stands 0 0 ws o place.0) mark.2 place.2 in
      let last : place.0 ≡ 0 + length ws = end_is 0 0 ws offset place.0 here (omega (arith, e, size_is)) in
      let same : place.0 ≡ length read = omega (arith, last, as_many pool 0 ws read meant) in
      place.1 ∙ ap (λ (k : ℕ). Some k) same

body_of : (marks : Marks) (room : Room) (lines : List Numbered) (body : MadeBody) (last : List Constant) (entry : ℕ) (code : Code)
    → Grows marks last 0 0 (begun room) body (instructions_in lines) (handlers_in lines) (frames_in lines) marks (places_in lines) → IsCode last entry (attribute_of body) code → IsBodyOf last room lines code
body_of marks room lines body last entry code grown is =
    let ws = grown.written in
    let places = places_in lines in
    let laid : AreLaidOut last (code_bytes 0 ws) 0 (map by_offsets code.steps) (length (code_bytes 0 ws)) =
    subst (λ (c : List ℕ). AreLaidOut last c 0 (map by_offsets code.steps) (length c)) grown.code_is is.steps.laid in
    let meant : AreMeant last 0 ws (map by_offsets code.steps) = only_written_code last ws (map by_offsets code.steps) grown.suited laid in
    let before = leads_before marks places last ws code.steps meant grown.labels in
    let to_end = leads_to_end marks places last ws code.steps meant grown.labels (length body.code) (ap length grown.code_is) in
    let table : AreHandlers last code.steps (length body.code) grown.table code.handlers =
    subst (λ (t : List RawHandler). AreHandlers last code.steps (length body.code) t code.handlers) grown.table_is is.handlers in
    let few : body.frame_count < 2 ^ 16 = grown.few (omega arith) in
    let placed : AreAsPlaced last code.steps grown.placed code.frames =
    map_read last code.steps entry body.map_name body.frame_count body.frames grown.placed code.frames (only_written_frames last code.steps entry grown.placed code.frames)
    grown.bytes_are (omega (arith, grown.count_is)) (λ e. (grown.named e).1) few grown.widths is.frames in
    record {
      max_stack = is.max_stack ∙ grown.stack_is;
      max_locals = is.max_locals ∙ grown.locals_are;
      instructions = instructions_say marks places last code.steps before 0 (instructions_in lines) ws code.steps grown.operations_are meant is.steps.targets;
      handlers = handlers_say marks places last code.steps (length body.code) before to_end (handlers_in lines) grown.table code.handlers grown.handlers_are table;
      frames = frames_say marks places last code.steps ws before (number_is last ws code.steps meant) (frames_in lines) grown.placed code.frames grown.frames_are placed;
    }

pub body_read_again : (room : Room) (lines rest : List Numbered) (end : Numbered) (body : MadeBody) (pool after last : List Constant) (entry : ℕ) (code : Code)
    → AllByRecursion IsSaidAt lines → is_end end.line ≡ true → steps (marks_in (lines ++ end ∷ rest)) lines (begun room) pool ≡ Some (after, body) → Extends after last
    → IsCode last entry (attribute_of body) code → IsBodyOf last room lines code
body_read_again room lines rest end body pool after last entry code said ends e more is =
    let marks = marks_in (lines ++ end ∷ rest) in
    body_of marks room lines body last entry code (lines_grow marks last end rest ends lines 0 (begun room) pool (after, body) said (omega arith) e more) is
