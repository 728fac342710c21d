-- The instruction at which a frame begins.
use Rattle.std.proofs.Common.{◌≡◌, ◌+◌, ℕ, true, Option, None, Some, List, length, refl, ap, sym, ◌∙◌, arith, slice_get}
use Rattle.std.proofs.lemmas.Bool.Decides.{nat_tests}
use Rattle.std.specs.Prelude.{nat_le, if◌then◌else◌}
use Rattle.code_decode.specs.declared.code.ClassUnit.{ClassUnit}
use Rattle.frame_snapshot.specs.FrameStack.{Frame as StackFrame, FrameStack}
use Rattle.instructions.specs.declared.what.Instr.{Instr}
use Rattle.instructions.specs.declared.what.Target.{Target}
use Rattle.instructions.specs.declared.what.What.{What}
use Rattle.interp_local.specs.declared.step.LocalStep.TheVariants.{Throw, Other}
use Rattle.interp_local.specs.Frames.{frame_now}
use Rattle.interp_local.specs.Steps.{kind_of, local_now, row_at}
use Rattle.java_rows.specs.LocalRows.{LocalRow, moves, fails_by, no_row, local_row}
use Rattle.java_rows.specs.Plan.{Frame, at_step, stuck, fails}
use Rattle.java_rows.specs.Program.{steps_of}
use Rattle.java_rows.specs.Rows.{by_local, row_with_operations}
use Rattle.java_rows.specs.Thread.{begun, at_task, at_instruction}
use Rattle.interp_plans.specs.Uses.{frame_of}

-- the words of a frame have room
pub has_room : (us : List ClassUnit) (me : ℕ) (f : StackFrame) → begun us me (frame_of f) ≡ at_task us me (frame_of f) at_step
has_room us me f =
    let fits : nat_le (length f.stack) (length f.stack + f.free) ≡ true = grind (arith, nat_tests) in
    ap (λ b. if b then at_task us me (frame_of f) at_step else stuck) fits

fails_for : (us : List ClassUnit) (me : ℕ) (f : Frame) (what : What Target) (r : LocalRow) (c : ℕ) → kind_of r ≡ Throw c → by_local us me f what r ≡ fails f c
fails_for us me f what (moves g) c is = search
fails_for us me f what (fails_by d) c is = search
fails_for us me f what no_row c is = search

other_for : (us : List ClassUnit) (me : ℕ) (f : Frame) (what : What Target) (r : LocalRow) → kind_of r ≡ Other → by_local us me f what r ≡ row_with_operations us me f what
other_for us me f what (moves g) is = search
other_for us me f what (fails_by c) is = search
other_for us me f what no_row is = refl

-- the row of its instruction
begun_is : (us : List ClassUnit) (me : ℕ) (f : StackFrame) (i : Instr Target) → slice_get (steps_of us f.method) f.step ≡ Some i
    → begun us me (frame_of f) ≡ by_local us me (frame_of f) i.what (local_row us (frame_of f) i.what f.stack)
begun_is us me f i is = has_room us me f ∙ ap (at_instruction us me (frame_of f)) is

kind_at : (us : List ClassUnit) (s : FrameStack) (i : Instr Target) → slice_get (steps_of us s.here.method) s.here.step ≡ Some i
    → kind_of (local_now us (steps_of us s.here.method) s) ≡ kind_of (local_row us (frame_of s.here) i.what s.here.stack)
kind_at us s i is = ap (λ o. kind_of (row_at us (frame_now s) o)) is

fails_at : (us : List ClassUnit) (me : ℕ) (f : Frame) (c : ℕ) (o : Option (Instr Target)) → Throw c ≡ kind_of (row_at us f o) → at_instruction us me f o ≡ fails f c
fails_at us me f c None kind = search
fails_at us me f c (Some i) kind = fails_for us me f i.what (local_row us f i.what f.stack) c (sym kind)

pub begun_fails : (us : List ClassUnit) (me : ℕ) (s : FrameStack) (c : ℕ) → Throw c ≡ kind_of (local_now us (steps_of us s.here.method) s)
    → begun us me (frame_of s.here) ≡ fails (frame_of s.here) c
begun_fails us me s c kind = has_room us me s.here ∙ fails_at us me (frame_of s.here) c (slice_get (steps_of us s.here.method) s.here.step) kind

pub begun_other : (us : List ClassUnit) (me : ℕ) (s : FrameStack) (i : Instr Target) → slice_get (steps_of us s.here.method) s.here.step ≡ Some i
    → Other ≡ kind_of (local_now us (steps_of us s.here.method) s) → begun us me (frame_of s.here) ≡ row_with_operations us me (frame_of s.here) i.what
begun_other us me s i is kind = begun_is us me s.here i is
    ∙ other_for us me (frame_of s.here) i.what (local_row us (frame_of s.here) i.what s.here.stack) (sym (kind ∙ kind_at us s i is))

-- a place past the end has no instruction
pub begun_none : (us : List ClassUnit) (me : ℕ) (f : StackFrame) → slice_get (steps_of us f.method) f.step ≡ None
    → begun us me (frame_of f) ≡ stuck
begun_none us me f none = has_room us me f ∙ ap (at_instruction us me (frame_of f)) none
