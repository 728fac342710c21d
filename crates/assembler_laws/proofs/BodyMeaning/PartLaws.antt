-- A body is its lines, part by part, as far as it is made.
use Rattle.std.proofs.Common.{◌≡◌, ℕ, ◌+◌, ◌-◌, ◌^◌, ◌<◌, ◌≤◌, Bool, true, false, cond, List, [], ◌∷◌, ◌++◌, length, Some, None, refl, sym, subst, ◌∙◌, inr, arith, bytes_eq, append_assoc, append-nil}
use Rattle.std.specs.List.{AllZip}
use Rattle.class_walk.specs.declared.class.Constant.{Constant}
use Rattle.class_walk.specs.declared.class.RawHandler.{RawHandler}
use Rattle.assembler_lines.specs.declared.operation.Operation.{Operation}
use Rattle.code_write.specs.declared.operands.Written.{Written}
use Rattle.code_write.specs.declared.frames.VerificationType.{VerificationType}
use Rattle.code_write.specs.Instruction.{instruction_bytes, IsInRange}
use Rattle.code_write.specs.Meaning.{code_bytes}
use Rattle.code_write.specs.Frame.{Placed, full_frame, frames_bytes}
use Rattle.class_walk.specs.Layout.{IsCounted}
use Rattle.assembler_bodies.specs.declared.labels.Mark.{Mark}
use Rattle.assembler_bodies.specs.Labels.{Marks}
use Rattle.assembler_bodies.specs.Body.{MadeBody}
use Rattle.assembler_laws.specs.WrittenCode.Suits.{AreSuited}
use Rattle.assembler_laws.specs.WrittenCode.Frames.{HasWidth, HaveWidths}
use Rattle.assembler_laws.specs.BodyMeaning.Parts.{Places, SaidHandler, SaidFrame}
use Rattle.assembler_laws.proofs.BodyMeaning.PlaceLaws.{Stands, stands_here}
use Rattle.assembler_laws.proofs.BodyMeaning.InstructionLaws.{IsWritten, suited_of}
use Rattle.assembler_laws.proofs.BodyMeaning.HandlerLaws.{IsRaw, with_raw}
use Rattle.assembler_laws.proofs.BodyMeaning.FrameLaws.{IsType, IsPut}

-- the place of the label is how many instructions come before it
abbrev pub HasPlace : ℕ → ℕ → List (Written ℕ) → Places → List ℕ → Mark → Type 0
HasPlace at n ws places name mark = (k : ℕ) × (places name ≡ Some k) × Stands at n ws mark.offset k

-- From one body to another, these instructions, handlers and frames are put, as lines say them. Before them the code
-- has `at` bytes and `n` instructions.
pub record Grows (marks : Marks) (pool : List Constant) (at n : ℕ) (old new : MadeBody) (operations : List Operation) (handlers : List SaidHandler) (frames : List SaidFrame) (there : Marks) (places : Places) : Type 0 where
  pub written : List (Written ℕ)
  pub code_is : new.code ≡ old.code ++ code_bytes at written
  pub suited : AreSuited at written
  pub operations_are : AllZip (IsWritten marks pool) operations written
  pub table : List RawHandler
  pub table_is : new.handlers ≡ old.handlers ++ table
  pub handlers_are : AllZip (IsRaw marks pool) handlers table
  pub placed : List Placed
  pub bytes_are : new.frames ≡ old.frames ++ frames_bytes old.least placed
  pub count_is : new.frame_count ≡ old.frame_count + length placed
  pub few : old.frame_count < 2 ^ 16 → new.frame_count < 2 ^ 16
  pub widths : HaveWidths old.least placed
  pub frames_are : AllZip (IsPut marks pool at n written) frames placed
  pub named : new.map_name ≡ None → (old.map_name ≡ None) × (placed ≡ [])
  pub labels : (name : List ℕ) (mark : Mark) → there name ≡ Some mark → HasPlace at n written places name mark
  pub stack_is : new.stack ≡ old.stack
  pub locals_are : new.locals ≡ old.locals

pub nothing_grows : (marks : Marks) (pool : List Constant) (at n : ℕ) (body : MadeBody) (there : Marks) (places : Places) → ((name : List ℕ) → there name ≡ None) → Grows marks pool at n body body [] [] [] there places
nothing_grows marks pool at n body there places none = record {
  written = [];
  code_is = sym (append-nil body.code);
  suited = tt;
  operations_are = tt;
  table = [];
  table_is = sym (append-nil body.handlers);
  handlers_are = tt;
  placed = [];
  bytes_are = sym (append-nil body.frames);
  count_is = omega arith;
  few = λ less. less;
  widths = tt;
  frames_are = tt;
  named = λ e. (e, refl);
  labels = λ name mark e. absurd (let no_mark = none name in cc);
  stack_is = refl;
  locals_are = refl;
}

module _ (marks : Marks) (pool : List Constant) (at n : ℕ) (old new : MadeBody) (operations : List Operation) (handlers : List SaidHandler) (frames : List SaidFrame) (there : Marks) (places : Places) where
  -- the body with an instruction more at this offset
  abbrev pub with_bytes : Written ℕ → MadeBody
  with_bytes w = record old { code = old.code ++ instruction_bytes at w }

  later_frames : (w : Written ℕ) (ws : List (Written ℕ)) (said : List SaidFrame) (placed : List Placed)
      → AllZip (IsPut marks pool (at + length (instruction_bytes at w)) (n + 1) ws) said placed → AllZip (IsPut marks pool at n (w ∷ ws)) said placed
  later_frames w ws [] [] are = tt
  later_frames w ws [] (p ∷ placed) are = absurd are
  later_frames w ws (f ∷ said) [] are = absurd are
  later_frames w ws (f ∷ said) (p ∷ placed) are = (record { stands = inr are.0.stands; locals = are.0.locals; stack = are.0.stack }, later_frames w ws said placed are.1)

  pub instruction_grows : (operation : Operation) (w : Written ℕ) → IsWritten marks pool operation w → IsInRange at w.operands
      → Grows marks pool (at + length (instruction_bytes at w)) (n + 1) (with_bytes w) new operations handlers frames there places → Grows marks pool at n old new (operation ∷ operations) handlers frames there places
  instruction_grows operation w is range rest = record {
    written = w ∷ rest.written;
    code_is = rest.code_is ∙ append_assoc old.code (instruction_bytes at w) (code_bytes (at + length (instruction_bytes at w)) rest.written);
    suited = (suited_of marks pool operation w at is range, rest.suited);
    operations_are = (is, rest.operations_are);
    table = rest.table;
    table_is = rest.table_is;
    handlers_are = rest.handlers_are;
    placed = rest.placed;
    bytes_are = rest.bytes_are;
    count_is = rest.count_is;
    few = rest.few;
    widths = rest.widths;
    frames_are = later_frames w rest.written frames rest.placed rest.frames_are;
    named = rest.named;
    labels = λ name mark e. let found = rest.labels name mark e in (found.0, found.1, inr found.2);
    stack_is = rest.stack_is;
    locals_are = rest.locals_are;
  }

  pub handler_grows : (said : SaidHandler) (raw : RawHandler) → IsRaw marks pool said raw → Grows marks pool at n (with_raw old raw) new operations handlers frames there places
      → Grows marks pool at n old new operations (said ∷ handlers) frames there places
  handler_grows said raw is rest = record {
    written = rest.written;
    code_is = rest.code_is;
    suited = rest.suited;
    operations_are = rest.operations_are;
    table = raw ∷ rest.table;
    table_is = rest.table_is ∙ append_assoc old.handlers (raw ∷ []) rest.table;
    handlers_are = (is, rest.handlers_are);
    placed = rest.placed;
    bytes_are = rest.bytes_are;
    count_is = rest.count_is;
    few = rest.few;
    widths = rest.widths;
    frames_are = rest.frames_are;
    named = rest.named;
    labels = rest.labels;
    stack_is = rest.stack_is;
    locals_are = rest.locals_are;
  }

  -- the body with a frame more at this offset
  abbrev pub with_frame_at : ℕ → List VerificationType → List VerificationType → MadeBody
  with_frame_at name locals stack = record old { map_name = Some name; frames = old.frames ++ full_frame (at - old.least) locals stack; frame_count = old.frame_count + 1; least = at + 1 }

  pub frame_grows : (said : SaidFrame) (name : ℕ) (locals stack : List VerificationType) → said.step ≡ n → AllZip (IsType marks pool) said.locals locals → AllZip (IsType marks pool) said.stack stack
      → IsCounted HasWidth locals → IsCounted HasWidth stack → old.least ≤ at → at < 2 ^ 16 → old.frame_count < 65535
      → Grows marks pool at n (with_frame_at name locals stack) new operations handlers frames there places → Grows marks pool at n old new operations handlers (said ∷ frames) there places
  frame_grows said name locals stack step_is locals_are stack_is locals_wide stack_wide later room few rest =
      let p : Placed = record { at = at; step = n; locals = locals; stack = stack } in
      record {
        written = rest.written;
        code_is = rest.code_is;
        suited = rest.suited;
        operations_are = rest.operations_are;
        table = rest.table;
        table_is = rest.table_is;
        handlers_are = rest.handlers_are;
        placed = p ∷ rest.placed;
        bytes_are = rest.bytes_are ∙ append_assoc old.frames (full_frame (at - old.least) locals stack) (frames_bytes (at + 1) rest.placed);
        count_is = omega (arith, rest.count_is);
        few = λ less. rest.few (omega (arith, few));
        widths = (record { later = later; delta = omega (arith, room); locals = locals_wide; stack = stack_wide }, rest.widths);
        frames_are =
            (record { stands = subst (λ (k : ℕ). Stands at n rest.written at k) (sym step_is) (stands_here at n rest.written); locals = locals_are; stack = stack_is }, rest.frames_are);
        named = λ e. absurd (let none = (rest.named e).0 in cc);
        labels = rest.labels;
        stack_is = rest.stack_is;
        locals_are = rest.locals_are;
      }

  with_label : (label name : List ℕ) (line : ℕ) (mark : Mark) (written : List (Written ℕ)) (b : Bool)
      → (there name ≡ Some mark → HasPlace at n written places name mark)
      → cond b (Some (record { line = line; offset = at })) (there name) ≡ Some mark
      → (k : ℕ) × (cond b (Some n) (places name) ≡ Some k) × Stands at n written mark.offset k
  with_label label name line mark written true others e =
      let same : record { line = line; offset = at } ≡ mark = cc in
      (n, refl, subst (λ (m : Mark). Stands at n written m.offset n) same (stands_here at n written))
  with_label label name line mark written false others e = others e

  pub label_grows : (label : List ℕ) (line : ℕ) → Grows marks pool at n old new operations handlers frames there places
      → Grows marks pool at n old new operations handlers frames (λ name. cond (bytes_eq name label) (Some (record { line = line; offset = at })) (there name)) (λ name. cond (bytes_eq name label) (Some n) (places name))
  label_grows label line rest = record {
    written = rest.written;
    code_is = rest.code_is;
    suited = rest.suited;
    operations_are = rest.operations_are;
    table = rest.table;
    table_is = rest.table_is;
    handlers_are = rest.handlers_are;
    placed = rest.placed;
    bytes_are = rest.bytes_are;
    count_is = rest.count_is;
    few = rest.few;
    widths = rest.widths;
    frames_are = rest.frames_are;
    named = rest.named;
    labels = λ name mark e. with_label label name line mark rest.written (bytes_eq name label) (rest.labels name mark) e;
    stack_is = rest.stack_is;
    locals_are = rest.locals_are;
  }
