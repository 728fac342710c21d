-- The offset of a label is the length of the code before it.
use Rattle.std.proofs.Common.{◌≡◌, ℕ, ◌+◌, ◌^◌, ◌<◌, Bool, true, false, ◌&&◌, cond, ltb, List, [], ◌∷◌, ◌++◌, length, Option, Some, None, refl, sym, ap, subst, ◌∙◌, arith, length-append, bytes_eq}
use Rattle.std.specs.List.{AllByRecursion}
use Rattle.std.proofs.lemmas.Bool.{and_parts}
use Rattle.std.proofs.lemmas.Bool.Decides.{Decides-ltb}
use Rattle.std.proofs.lemmas.Slice.Eq.{bytes_eq-Decides}
use Rattle.class_walk.specs.declared.class.Constant.{Constant}
use Rattle.class_walk.specs.declared.class.RawHandler.{RawHandler}
use Rattle.instructions.specs.Table.{Instruction, row_numbered}
use Rattle.assembler_lines.specs.declared.line.Line.{Line}
use Rattle.assembler_lines.specs.declared.line.Line.TheVariants as kinds
use Rattle.assembler_lines.specs.declared.operation.Operation.{Operation}
use Rattle.assembler_lines.specs.declared.frame.FrameItem.{FrameItem}
use Rattle.code_write.specs.declared.operands.Written.{Written}
use Rattle.code_write.specs.declared.frames.VerificationType.{VerificationType}
use Rattle.code_write.specs.declared.shape.Shape.{Shape}
use Rattle.code_write.specs.Instruction.{instruction_bytes, size, IsInRange}
use Rattle.code_write.proofs.SizeLaws.{written_size}
use Rattle.assembler_text.specs.declared.lines.Numbered.{Numbered}
use Rattle.assembler_bodies.specs.Making.{with_pool, each_made}
use Rattle.assembler_bodies.specs.Labels.{Marks, capped, behind_row, offset_behind, is_end, is_label, marks_from, shape_of}
use Rattle.assembler_bodies.specs.Offsets.{short_offset_of}
use Rattle.assembler_bodies.specs.Operands.{operands_of}
use Rattle.assembler_bodies.specs.Body.{MadeBody, is_in_range, code_with, with_code, with_instruction, caught, put_handler, with_handler, map_name_of, type_of, put_frame, with_frame, is_first_at, step_of, step, steps}
use Rattle.assembler_bodies.specs.Put.{Puts}
use Rattle.assembler_bodies.proofs.ShapeLaws.{parts_of, found_of, operands_shape}

-- what passes a test
pub chosen : {A : Type 0} (test : Bool) (y x : A) → cond test (Some y) None ≡ Some x → (test ≡ true) × (x ≡ y)
chosen true y x e = (refl, cc)
chosen false y x e = absurd cc

-- ---- instructions

pub record Code (w : Written ℕ) (old code : List ℕ) : Type 0 where
  pub in_range : IsInRange (length old) w.operands
  pub put : code ≡ old ++ instruction_bytes (length old) w
  pub room : length code < 2 ^ 16

pub code_is : (w : Written ℕ) (old code : List ℕ) → code_with w old ≡ Some code → Code w old code
unfolding code_with
code_is w old code e =
    let got = chosen ((is_in_range (length old) w.operands).holds && ltb (length (old ++ instruction_bytes (length old) w)) (2 ^ 16)) (old ++ instruction_bytes (length old) w) code e in
    let tests = and_parts (is_in_range (length old) w.operands).holds (ltb (length (old ++ instruction_bytes (length old) w)) (2 ^ 16)) got.0 in
    let less = (Decides-ltb (length (old ++ instruction_bytes (length old) w)) (2 ^ 16)).0 tests.1 in
    record {
      in_range = (is_in_range (length old) w.operands).tells.0 tests.0;
      put = got.1;
      room = omega (arith, ap length got.1, less);
    }

pub record With (body : MadeBody) (o : Option (List ℕ)) (new : MadeBody) : Type 0 where
  pub code : List ℕ
  pub is : o ≡ Some code
  pub new_is : new ≡ record body { code = code }

pub with_is : (body : MadeBody) (o : Option (List ℕ)) (new : MadeBody) → with_code body o ≡ Some new → With body o new
with_is body None new e = absurd cc
with_is body (Some code) new e = record { code = code; is = refl; new_is = cc }

pub instruction_puts : (marks : Marks) (operation : Operation) (old : MadeBody) (pool : List Constant) (x : List Constant × MadeBody) → with_instruction marks operation old pool ≡ Some x → Puts operation old x.1
unfolding with_instruction
instruction_puts marks operation old pool x e =
    let p = parts_of (with_pool pool (row_numbered operation.number)) _ x e in
    let row = p.made.1 in
    let q = parts_of (operands_of marks row.form operation.is_wide operation.operands p.made.0) _ x p.next_is in
    let w : Written ℕ = record { number = operation.number; operands = q.made.1 } in
    let last = with_is old (code_with w old.code) x.1 (found_of q.made.0 (with_code old (code_with w old.code)) x q.next_is) in
    let code = code_is w old.code last.code last.is in
    record {
      row = row;
      numbered = found_of pool (row_numbered operation.number) p.made p.first_is;
      operands = q.made.1;
      in_range = code.in_range;
      shaped = operands_shape marks row.form operation.is_wide operation.operands p.made.0 q.made q.first_is;
      put = last.new_is ∙ ap (λ (c : List ℕ). record old { code = c }) code.put;
      room = subst (λ (b : MadeBody). length b.code < 2 ^ 16) (sym last.new_is) code.room;
    }

-- what the code of a line is as long as
pub record Grows (line : Option Line) (old new : MadeBody) : Type 0 where
  pub length_is : length new.code ≡ offset_behind (length old.code) line
  pub room : length new.code < 2 ^ 16

instruction_grows : (operation : Operation) (old new : MadeBody) → Puts operation old new → Grows (Some (kinds.Instruction operation)) old new
instruction_grows operation old new puts =
    let at = length old.code in
    let w : Written ℕ = record { number = operation.number; operands = puts.operands } in
    let joined : length new.code ≡ at + length (instruction_bytes at w) = ap (λ (b : MadeBody). length b.code) puts.put ∙ length-append old.code (instruction_bytes at w) in
    let sized : length (instruction_bytes at w) ≡ size at (shape_of puts.row.form operation.is_wide operation.operands) = written_size at w ∙ ap (λ (s : Shape). size at s) puts.shaped in
    let behind : behind_row at (row_numbered operation.number) operation ≡ capped (at + size at (shape_of puts.row.form operation.is_wide operation.operands)) = ap (λ (o : Option Instruction). behind_row at o operation) puts.numbered in
    let free : length new.code ≡ capped (at + size at (shape_of puts.row.form operation.is_wide operation.operands)) = omega (arith, joined, sized, puts.room) in
    record { length_is = free ∙ sym behind; room = puts.room }

-- ---- other lines

handler_kept : (handler : RawHandler) (old new : MadeBody) → put_handler handler old ≡ Some new → new.code ≡ old.code
unfolding put_handler
handler_kept handler old new e = ap (λ (b : MadeBody). b.code) (chosen _ _ new e).1

with_handler_kept : (marks : Marks) (from to at : List ℕ) (class : Option (List ℕ)) (old : MadeBody) (pool : List Constant) (x : List Constant × MadeBody) → with_handler marks from to at class old pool ≡ Some x → x.1.code ≡ old.code
unfolding with_handler
with_handler_kept marks from to at class old pool x e =
    let p = parts_of (with_pool pool (short_offset_of marks from)) _ x e in
    let q = parts_of (with_pool p.made.0 (short_offset_of marks to)) _ x p.next_is in
    let r = parts_of (with_pool q.made.0 (short_offset_of marks at)) _ x q.next_is in
    let k = parts_of (caught class r.made.0) _ x r.next_is in
    handler_kept _ old x.1 (found_of k.made.0 _ x k.next_is)

frame_kept : (name : ℕ) (locals stack : List VerificationType) (old new : MadeBody) → put_frame name locals stack old ≡ Some new → new.code ≡ old.code
unfolding put_frame
frame_kept name locals stack old new e = ap (λ (b : MadeBody). b.code) (chosen _ _ new e).1

with_frame_kept : (marks : Marks) (locals stack : List FrameItem) (old : MadeBody) (pool : List Constant) (x : List Constant × MadeBody) → with_frame marks locals stack old pool ≡ Some x → x.1.code ≡ old.code
unfolding with_frame
with_frame_kept marks locals stack old pool x e =
    let p = parts_of (map_name_of old.map_name pool) _ x e in
    let q = parts_of (each_made (type_of marks) locals p.made.0) _ x p.next_is in
    let r = parts_of (each_made (type_of marks) stack q.made.0) _ x q.next_is in
    frame_kept p.made.1 q.made.1 r.made.1 old x.1 (found_of r.made.0 _ x r.next_is)

same_code : (old new : MadeBody) → length old.code < 2 ^ 16 → new.code ≡ old.code → (length new.code ≡ length old.code) × (length new.code < 2 ^ 16)
same_code old new room same = (ap length same, omega (arith, ap length same, room))

pub step_grows : (marks : Marks) (number : ℕ) (line : Option Line) (old : MadeBody) (pool : List Constant) (x : List Constant × MadeBody) → length old.code < 2 ^ 16
    → step_of marks number line old pool ≡ Some x → Grows line old x.1
step_grows marks number (Some (kinds.Label name)) old pool x room e =
    let is = (chosen (is_first_at number (marks name)) old x.1 (found_of pool _ x e)).1 in
    let kept = same_code old x.1 room (ap (λ (b : MadeBody). b.code) is) in
    record { length_is = kept.0; room = kept.1 }
step_grows marks number (Some (kinds.Instruction operation)) old pool x room e = instruction_grows operation old x.1 (instruction_puts marks operation old pool x e)
step_grows marks number (Some (kinds.Handler from to at class)) old pool x room e =
    let kept = same_code old x.1 room (with_handler_kept marks from to at class old pool x e) in
    record { length_is = kept.0; room = kept.1 }
step_grows marks number (Some (kinds.Frame locals stack)) old pool x room e =
    let kept = same_code old x.1 room (with_frame_kept marks locals stack old pool x e) in
    record { length_is = kept.0; room = kept.1 }
step_grows marks number _ old pool x room e = absurd cc

no_end : (marks : Marks) (number : ℕ) (line : Option Line) (old : MadeBody) (pool : List Constant) (x : List Constant × MadeBody) → step_of marks number line old pool ≡ Some x → is_end line ≡ false
no_end marks number (Some kinds.End) old pool x e = absurd cc
no_end marks number _ old pool x e = refl

-- ---- labels

marks_behind : (marks : Marks) (front rest : List Numbered) (name : List ℕ) (old : MadeBody) (pool : List Constant) (x : List Constant × MadeBody) → length old.code < 2 ^ 16
    → steps marks front old pool ≡ Some x → AllByRecursion (λ n. is_label name n.line ≡ false) front
    → marks_from (length old.code) (front ++ rest) name ≡ marks_from (length x.1.code) rest name
marks_behind marks [] rest name old pool x room e others =
    let is : (pool, old) ≡ x = cc in
    ap (λ (y : List Constant × MadeBody). marks_from (length y.1.code) rest name) is
marks_behind marks (n ∷ front) rest name old pool x room e others =
    let p = parts_of (step marks n old pool) (λ b. steps marks front b) x e in
    let grows = step_grows marks n.number n.line old pool p.made room p.first_is in
    let goes = no_end marks n.number n.line old pool p.made p.first_is in
    let one : marks_from (length old.code) (n ∷ front ++ rest) name ≡ marks_from (offset_behind (length old.code) n.line) (front ++ rest) name = rw (goes, others.0) refl in
    one ∙ ap (λ (at : ℕ). marks_from at (front ++ rest) name) (sym grows.length_is) ∙ marks_behind marks front rest name p.made.1 p.made.0 x grows.room p.next_is others.1

-- the offset of a label is the length of the code before it
pub label_stands : (marks : Marks) (front rest : List Numbered) (numbered : Numbered) (name : List ℕ) (old : MadeBody) (pool : List Constant) (x : List Constant × MadeBody) → old.code ≡ []
    → steps marks front old pool ≡ Some x → AllByRecursion (λ n. is_label name n.line ≡ false) front → numbered.line ≡ Some (kinds.Label name)
    → marks_from 0 (front ++ numbered ∷ rest) name ≡ Some (record { line = numbered.number; offset = length x.1.code })
label_stands marks front rest numbered name old pool x empty e others is =
    let zero : length old.code ≡ 0 = ap length empty in
    let itself : bytes_eq name name ≡ true = (bytes_eq-Decides name name).1 refl in
    let behind = marks_behind marks front (numbered ∷ rest) name old pool x (omega (arith, zero)) e others in
    ap (λ (at : ℕ). marks_from at (front ++ numbered ∷ rest) name) (sym zero) ∙ behind ∙ rw (is, itself) refl
