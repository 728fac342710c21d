-- A body is instructions and frames, as far as it is made.
use Rattle.std.proofs.Common.{◌≡◌, ℕ, ◌+◌, ◌-◌, List, [], ◌∷◌, ◌++◌, length, Option, Some, refl, sym, ap, subst, ◌∙◌, arith, length-append}
use Rattle.class_walk.specs.declared.class.Constant.{Constant}
use Rattle.class_walk.specs.declared.class.RawHandler.{RawHandler}
use Rattle.assembler_lines.specs.declared.line.Line.{Line}
use Rattle.assembler_lines.specs.declared.line.Line.TheVariants as kinds
use Rattle.assembler_lines.specs.declared.line.Room.{Room}
use Rattle.assembler_lines.specs.declared.operation.Operation.{Operation}
use Rattle.assembler_lines.specs.declared.frame.FrameItem.{FrameItem}
use Rattle.code_write.specs.declared.operands.Written.{Written}
use Rattle.code_write.specs.declared.frames.VerificationType.{VerificationType}
use Rattle.code_write.specs.Instruction.{instruction_bytes, IsInRange}
use Rattle.code_write.specs.Meaning.{code_bytes}
use Rattle.code_write.specs.Frame.{Placed, full_frame, frames_bytes, least_behind}
use Rattle.code_write.proofs.CodeLaws.{code_more}
use Rattle.code_write.proofs.FrameLaws.{frames_more}
use Rattle.assembler_text.specs.declared.lines.Numbered.{Numbered}
use Rattle.assembler_bodies.specs.Making.{with_pool, each_made}
use Rattle.assembler_bodies.specs.Labels.{Marks}
use Rattle.assembler_bodies.specs.Offsets.{short_offset_of}
use Rattle.assembler_bodies.specs.Body.{MadeBody, begun, caught, put_handler, with_handler, map_name_of, type_of, put_frame, with_frame, is_first_at, step_of, step, steps}
use Rattle.assembler_bodies.specs.Put.{Puts, AreInRange, IsMadeOf}
use Rattle.assembler_bodies.proofs.ShapeLaws.{parts_of, found_of}
use Rattle.assembler_bodies.proofs.StepLaws.{chosen, instruction_puts}

begun_of : (room : Room) → IsMadeOf (begun room)
begun_of room = record { instructions = []; code_is = refl; in_range = tt; frames = []; frames_are = refl; count_is = refl; least_is = refl }

range_more : (at : ℕ) (ws : List (Written ℕ)) (w : Written ℕ) → AreInRange at ws → IsInRange (at + length (code_bytes at ws)) w.operands → AreInRange at (ws ++ w ∷ [])
range_more at [] w are is =
    let zero : at + length (code_bytes at []) ≡ at = omega arith in
    let P : ℕ → Type 0 = λ n. IsInRange n w.operands in
    (subst P zero is, tt)
range_more at (v ∷ ws) w are is =
    let next = at + length (instruction_bytes at v) in
    let sum : at + length (code_bytes at (v ∷ ws)) ≡ next + length (code_bytes next ws) = omega (arith, length-append (instruction_bytes at v) (code_bytes next ws)) in
    let P : ℕ → Type 0 = λ n. IsInRange n w.operands in
    (are.0, range_more next ws w are.1 (subst P sum is))

least_more : (least : ℕ) (frames : List Placed) (p : Placed) → least_behind least (frames ++ p ∷ []) ≡ p.at + 1
least_more least [] p = refl
least_more least (q ∷ frames) p = least_more (q.at + 1) frames p

same_of : (old new : MadeBody) → new.code ≡ old.code → new.frames ≡ old.frames → new.frame_count ≡ old.frame_count → new.least ≡ old.least → IsMadeOf old → IsMadeOf new
same_of old new code frames count least is = record {
  instructions = is.instructions;
  code_is = code ∙ is.code_is;
  in_range = is.in_range;
  frames = is.frames;
  frames_are = frames ∙ is.frames_are;
  count_is = count ∙ is.count_is;
  least_is = least ∙ is.least_is;
}

-- ---- an instruction more

instruction_of : (operation : Operation) (old new : MadeBody) → Puts operation old new → IsMadeOf old → IsMadeOf new
instruction_of operation old new puts is =
    let w : Written ℕ = record { number = operation.number; operands = puts.operands } in
    let long : length old.code ≡ 0 + length (code_bytes 0 is.instructions) = omega (arith, ap length is.code_is) in
    let P : ℕ → Type 0 = λ n. IsInRange n puts.operands in
    let grown : new.code ≡ old.code ++ instruction_bytes (length old.code) w = ap (λ (b : MadeBody). b.code) puts.put in
    record {
      instructions = is.instructions ++ w ∷ [];
      code_is = grown
          ∙ ap (λ (c : List ℕ). c ++ instruction_bytes (length old.code) w) is.code_is
          ∙ ap (λ (n : ℕ). code_bytes 0 is.instructions ++ instruction_bytes n w) long
          ∙ sym (code_more 0 is.instructions w);
      in_range = range_more 0 is.instructions w is.in_range (subst P long puts.in_range);
      frames = is.frames;
      frames_are = ap (λ (b : MadeBody). b.frames) puts.put ∙ is.frames_are;
      count_is = ap (λ (b : MadeBody). b.frame_count) puts.put ∙ is.count_is;
      least_is = ap (λ (b : MadeBody). b.least) puts.put ∙ is.least_is;
    }

-- ---- a handler more

handler_of : (handler : RawHandler) (old new : MadeBody) → put_handler handler old ≡ Some new → IsMadeOf old → IsMadeOf new
unfolding put_handler
handler_of handler old new e is =
    let put = (chosen _ _ new e).1 in
    same_of old new (ap (λ (b : MadeBody). b.code) put) (ap (λ (b : MadeBody). b.frames) put) (ap (λ (b : MadeBody). b.frame_count) put) (ap (λ (b : MadeBody). b.least) put) is

with_handler_of : (marks : Marks) (from to at : List ℕ) (class : Option (List ℕ)) (old : MadeBody) (pool : List Constant) (x : List Constant × MadeBody) → with_handler marks from to at class old pool ≡ Some x → IsMadeOf old → IsMadeOf x.1
unfolding with_handler
with_handler_of marks from to at class old pool x e is =
    let p = parts_of (with_pool pool (short_offset_of marks from)) _ x e in
    let q = parts_of (with_pool p.made.0 (short_offset_of marks to)) _ x p.next_is in
    let r = parts_of (with_pool q.made.0 (short_offset_of marks at)) _ x q.next_is in
    let k = parts_of (caught class r.made.0) _ x r.next_is in
    handler_of _ old x.1 (found_of k.made.0 _ x k.next_is) is

-- ---- a frame more

frame_of : (name : ℕ) (locals stack : List VerificationType) (old new : MadeBody) → put_frame name locals stack old ≡ Some new → IsMadeOf old → IsMadeOf new
unfolding put_frame
frame_of name locals stack old new e is =
    let put = (chosen _ _ new e).1 in
    let placed : Placed = record { at = length old.code; step = 0; locals = locals; stack = stack } in
    let grown : new.frames ≡ old.frames ++ full_frame (length old.code - old.least) locals stack = ap (λ (b : MadeBody). b.frames) put in
    let counted : new.frame_count ≡ old.frame_count + 1 = ap (λ (b : MadeBody). b.frame_count) put in
    let next : new.least ≡ length old.code + 1 = ap (λ (b : MadeBody). b.least) put in
    record {
      instructions = is.instructions;
      code_is = ap (λ (b : MadeBody). b.code) put ∙ is.code_is;
      in_range = is.in_range;
      frames = is.frames ++ placed ∷ [];
      frames_are = grown
          ∙ ap (λ (fs : List ℕ). fs ++ full_frame (length old.code - old.least) locals stack) is.frames_are
          ∙ ap (λ (n : ℕ). frames_bytes 0 is.frames ++ full_frame (length old.code - n) locals stack) is.least_is
          ∙ sym (frames_more 0 is.frames placed);
      count_is = omega (arith, counted, is.count_is, length-append is.frames (placed ∷ []));
      least_is = next ∙ sym (least_more 0 is.frames placed);
    }

with_frame_of : (marks : Marks) (locals stack : List FrameItem) (old : MadeBody) (pool : List Constant) (x : List Constant × MadeBody) → with_frame marks locals stack old pool ≡ Some x → IsMadeOf old → IsMadeOf x.1
unfolding with_frame
with_frame_of marks locals stack old pool x e is =
    let p = parts_of (map_name_of old.map_name pool) _ x e in
    let q = parts_of (each_made (type_of marks) locals p.made.0) _ x p.next_is in
    let r = parts_of (each_made (type_of marks) stack q.made.0) _ x q.next_is in
    frame_of p.made.1 q.made.1 r.made.1 old x.1 (found_of r.made.0 _ x r.next_is) is

-- ---- lines

step_made : (marks : Marks) (number : ℕ) (line : Option Line) (old : MadeBody) (pool : List Constant) (x : List Constant × MadeBody) → step_of marks number line old pool ≡ Some x → IsMadeOf old → IsMadeOf x.1
step_made marks number (Some (kinds.Label name)) old pool x e is =
    let same = (chosen (is_first_at number (marks name)) old x.1 (found_of pool _ x e)).1 in
    subst IsMadeOf (sym same) is
step_made marks number (Some (kinds.Instruction operation)) old pool x e is = instruction_of operation old x.1 (instruction_puts marks operation old pool x e) is
step_made marks number (Some (kinds.Handler from to at class)) old pool x e is = with_handler_of marks from to at class old pool x e is
step_made marks number (Some (kinds.Frame locals stack)) old pool x e is = with_frame_of marks locals stack old pool x e is
step_made marks number _ old pool x e is = absurd cc

steps_made : (marks : Marks) (lines : List Numbered) (old : MadeBody) (pool : List Constant) (x : List Constant × MadeBody) → steps marks lines old pool ≡ Some x → IsMadeOf old → IsMadeOf x.1
steps_made marks [] old pool x e is =
    let same : (pool, old) ≡ x = cc in
    subst (λ (y : List Constant × MadeBody). IsMadeOf y.1) same is
steps_made marks (n ∷ lines) old pool x e is =
    let p = parts_of (step marks n old pool) (λ b. steps marks lines b) x e in
    steps_made marks lines p.made.1 p.made.0 x p.next_is (step_made marks n.number n.line old pool p.made p.first_is is)

pub body_made : (marks : Marks) (room : Room) (lines : List Numbered) (pool : List Constant) (x : List Constant × MadeBody) → steps marks lines (begun room) pool ≡ Some x → IsMadeOf x.1
body_made marks room lines pool x e = steps_made marks lines (begun room) pool x e (begun_of room)
