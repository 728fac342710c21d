-- Each line of a body puts what it says.
use Rattle.std.proofs.Common.{◌≡◌, ℕ, ◌+◌, ◌^◌, ◌<◌, true, cond, List, [], ◌∷◌, ◌++◌, length, Option, Some, None, refl, ap, subst, bytes_eq, length-append}
use Rattle.std.specs.List.{AllByRecursion}
use Rattle.class_walk.specs.declared.class.Constant.{Constant}
use Rattle.assembler_lines.specs.declared.frame.FrameItem.{FrameItem}
use Rattle.assembler_lines.specs.declared.line.Line.{Line}
use Rattle.assembler_lines.specs.declared.line.Line.TheVariants as kinds
use Rattle.assembler_lines.specs.declared.operation.Operation.{Operation}
use Rattle.assembler_text.specs.declared.lines.Numbered.{Numbered}
use Rattle.code_write.specs.Instruction.{instruction_bytes}
use Rattle.assembler_pool.specs.Uses.{Extends}
use Rattle.assembler_pool.proofs.UseLaws.{extends_further}
use Rattle.assembler_bodies.specs.Labels.{Marks, offset_behind, is_end, is_label, marks_from}
use Rattle.assembler_bodies.specs.Body.{MadeBody, with_instruction as put_instruction, with_handler as put_handler, with_frame as put_frame, is_first_at, step_of, step, steps}
use Rattle.assembler_bodies.proofs.ShapeLaws.{parts_of, found_of}
use Rattle.assembler_bodies.proofs.StepGrows.{steps_keep}
use Rattle.assembler_bodies.proofs.StepLaws.{chosen, step_grows}
use Rattle.assembler_laws.specs.BodyMeaning.Parts.{IsSaid, IsSaidAt, Places, SaidHandler, SaidFrame, steps_behind, with_instruction, with_handler, with_frame, instructions_in, handlers_in, frames_from, places_from}
use Rattle.assembler_laws.proofs.BodyMeaning.GrammarLaws.{IsRight, instruction_right}
use Rattle.assembler_laws.proofs.BodyMeaning.InstructionLaws.{with_written, instruction_put}
use Rattle.assembler_laws.proofs.BodyMeaning.HandlerLaws.{handler_put}
use Rattle.assembler_laws.proofs.BodyMeaning.FrameLaws.{frame_put}
use Rattle.assembler_laws.proofs.BodyMeaning.PartLaws.{Grows, nothing_grows, instruction_grows, handler_grows, frame_grows, label_grows}

line_right : (operation : Operation) → IsSaid (Some (kinds.Instruction operation)) → IsRight operation
line_right operation is = instruction_right is.1.0 operation is.1.2

module _ (marks : Marks) (last : List Constant) (number n : ℕ) (old : MadeBody) (pool : List Constant) (x : List Constant × MadeBody) (new : MadeBody)
    (operations : List Operation) (handlers : List SaidHandler) (frames : List SaidFrame) (there : ℕ → Marks) (places : Places) where
  -- what is put after the line, where k instructions come before
  abbrev Behind : ℕ → MadeBody → Type 0
  Behind k body = Grows marks last (length body.code) k body new operations handlers frames (there (length body.code)) places

  label_same : (label : List ℕ) → step_of marks number (Some (kinds.Label label)) old pool ≡ Some x → x.1 ≡ old
  label_same label e = (chosen (is_first_at number (marks label)) old x.1 (found_of pool (cond (is_first_at number (marks label)) (Some old) None) x e)).1

  label_line : (label : List ℕ) → step_of marks number (Some (kinds.Label label)) old pool ≡ Some x → Behind n x.1
      → Grows marks last (length old.code) n old new operations handlers frames
      (λ name. cond (bytes_eq name label) (Some (record { line = number; offset = length old.code })) (there (length old.code) name)) (λ name. cond (bytes_eq name label) (Some n) (places name))
  label_line label e rest =
      label_grows marks last (length old.code) n old new operations handlers frames (there (length old.code)) places label number (subst (Behind n) (label_same label e) rest)

  instruction_line : (operation : Operation) → IsRight operation → put_instruction marks operation old pool ≡ Some x → Extends x.0 last
      → length x.1.code ≡ offset_behind (length old.code) (Some (kinds.Instruction operation)) → Behind (n + 1) x.1
      → Grows marks last (length old.code) n old new (operation ∷ operations) handlers frames (there (offset_behind (length old.code) (Some (kinds.Instruction operation)))) places
  instruction_line operation right e more behind rest =
      let at = length old.code in
      let next = offset_behind at (Some (kinds.Instruction operation)) in
      let puts = instruction_put marks operation old pool x right e in
      let w = puts.written in
      let long : length (with_written old w).code ≡ at + length (instruction_bytes at w) = length-append old.code (instruction_bytes at w) in
      let first : Grows marks last (length x.1.code) (n + 1) x.1 new operations handlers frames (there next) places =
      subst (λ (m : Marks). Grows marks last (length x.1.code) (n + 1) x.1 new operations handlers frames m places) (ap there behind) rest in
      let second : Grows marks last (length (with_written old w).code) (n + 1) (with_written old w) new operations handlers frames (there next) places =
      subst (λ (b : MadeBody). Grows marks last (length b.code) (n + 1) b new operations handlers frames (there next) places) puts.put first in
      let third : Grows marks last (at + length (instruction_bytes at w)) (n + 1) (with_written old w) new operations handlers frames (there next) places =
      subst (λ (a : ℕ). Grows marks last a (n + 1) (with_written old w) new operations handlers frames (there next) places) long second in
      instruction_grows marks last at n old new operations handlers frames (there next) places operation w (puts.is last more) puts.in_range third

  handler_line : (from to at : List ℕ) (class : Option (List ℕ)) → put_handler marks from to at class old pool ≡ Some x → Extends x.0 last → Behind n x.1
      → Grows marks last (length old.code) n old new operations (record { from = from; to = to; at = at; class = class } ∷ handlers) frames (there (length old.code)) places
  handler_line from to at class e more rest =
      let puts = handler_put marks from to at class old pool x e in
      handler_grows marks last (length old.code) n old new operations handlers frames (there (length old.code)) places
      (record { from = from; to = to; at = at; class = class }) puts.raw (puts.is last more) (subst (Behind n) puts.put rest)

  frame_line : (locals stack : List FrameItem) → length old.code < 2 ^ 16 → put_frame marks locals stack old pool ≡ Some x → Extends x.0 last → Behind n x.1
      → Grows marks last (length old.code) n old new operations handlers (record { step = n; locals = locals; stack = stack } ∷ frames) (there (length old.code)) places
  frame_line locals stack room e more rest =
      let puts = frame_put marks locals stack old pool x e in
      frame_grows marks last (length old.code) n old new operations handlers frames (there (length old.code)) places
      (record { step = n; locals = locals; stack = stack }) puts.name puts.local_types puts.stack_types refl (puts.locals_are last more) (puts.stack_is last more)
      puts.locals_wide puts.stack_wide puts.later room puts.few (subst (Behind n) puts.put rest)

  line_grows : (line : Option Line) → IsSaid line → length old.code < 2 ^ 16 → step_of marks number line old pool ≡ Some x → Extends x.0 last
      → length x.1.code ≡ offset_behind (length old.code) line → Behind (steps_behind n line) x.1
      → Grows marks last (length old.code) n old new (with_instruction line operations) (with_handler line handlers) (with_frame n line frames)
      (λ name. cond (is_end line) None (cond (is_label name line) (Some (record { line = number; offset = length old.code })) (there (offset_behind (length old.code) line) name)))
      (λ name. cond (is_label name line) (Some n) (places name))
  line_grows (Some (kinds.Label label)) is room e more behind rest = label_line label e rest
  line_grows (Some (kinds.Instruction operation)) is room e more behind rest = instruction_line operation (line_right operation is) e more behind rest
  line_grows (Some (kinds.Handler from to at class)) is room e more behind rest = handler_line from to at class e more rest
  line_grows (Some (kinds.Frame locals stack)) is room e more behind rest = frame_line locals stack room e more rest
  line_grows _ is room e more behind rest = absurd cc

module _ (marks : Marks) (last : List Constant) (end : Numbered) (rest : List Numbered) (ends : is_end end.line ≡ true) where
  no_marks : (at : ℕ) (name : List ℕ) → marks_from at (end ∷ rest) name ≡ None
  no_marks at name = rw ends refl

  -- the lines up to the end of a body put what they say
  pub lines_grow : (lines : List Numbered) (n : ℕ) (old : MadeBody) (pool : List Constant) (x : List Constant × MadeBody) → AllByRecursion IsSaidAt lines → length old.code < 2 ^ 16
      → steps marks lines old pool ≡ Some x → Extends x.0 last
      → Grows marks last (length old.code) n old x.1 (instructions_in lines) (handlers_in lines) (frames_from n lines) (marks_from (length old.code) (lines ++ end ∷ rest)) (places_from n lines)
  lines_grow [] n old pool x are room e more =
      let same : old ≡ x.1 = cc in
      let none = nothing_grows marks last (length old.code) n old (marks_from (length old.code) (end ∷ rest)) (places_from n []) (no_marks (length old.code)) in
      subst (λ (b : MadeBody). Grows marks last (length old.code) n old b [] [] [] (marks_from (length old.code) (end ∷ rest)) (places_from n [])) same none
  lines_grow (numbered ∷ lines) n old pool x are room e more =
      let p = parts_of (step marks numbered old pool) (λ b. steps marks lines b) x e in
      let grown = step_grows marks numbered.number numbered.line old pool p.made room p.first_is in
      let k = steps_behind n numbered.line in
      let on = lines_grow lines k p.made.1 p.made.0 x are.1 grown.room p.next_is more in
      let kept = extends_further p.made.0 x.0 last (steps_keep marks lines p.made.1 p.made.0 x p.next_is).extends more in
      line_grows marks last numbered.number n old pool p.made x.1 (instructions_in lines) (handlers_in lines) (frames_from k lines) (λ at. marks_from at (lines ++ end ∷ rest)) (places_from k lines)
      numbered.line are.0 room p.first_is kept grown.length_is on
