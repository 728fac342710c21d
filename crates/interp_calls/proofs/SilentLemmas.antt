-- Silent steps.
use Rattle.std.proofs.Common.{◌≡◌, ◌≤◌, ℕ, suc, Bool, true, false, Option, None, Some, List, [], ◌∷◌, ◌==◌, ◌&&◌, ◌||◌, length, map, refl, ap, ◌∙◌, arith, slice_get}
use Rattle.std.proofs.lemmas.Bool.Decides.{nat_tests}
use Rattle.std.proofs.lemmas.List.{length-map}
use Rattle.std.specs.List.{list_any}
use Rattle.std.specs.Prelude.{nat_le, if◌then◌else◌}
use Rattle.code_decode.specs.declared.code.ClassUnit.{ClassUnit}
use Rattle.frame_snapshot.specs.FrameStack.{Frame as StackFrame, Saved, FrameStack, frame_count, was_saved}
use Rattle.frame_snapshot.specs.declared.stage.Caller.{Caller}
use Rattle.frame_snapshot.specs.declared.stage.Caller.TheVariants.{Instruction, Launch}
use Rattle.instructions.specs.declared.what.Instr.{Instr}
use Rattle.instructions.specs.declared.what.Target.{Target}
use Rattle.instructions.specs.declared.what.What.{What}
use Rattle.interp_local.specs.declared.step.LocalStep.TheVariants.{Moved}
use Rattle.interp_local.specs.Steps.{kind_of, local_now, row_at}
use Rattle.op_core.specs.declared.Next.TheVariants.{Silent}
use Rattle.op_core.specs.ThreadCode.{quiet_step, quiet_to, leaves_any}
use Rattle.java_rows.specs.LocalRows.{LocalRow, moves, fails_by, no_row, local_row}
use Rattle.java_rows.specs.Plan.{Frame, goes, ready, Plan, silently}
use Rattle.java_rows.specs.Program.{steps_of}
use Rattle.java_rows.specs.Rows.{by_local}
use Rattle.java_rows.specs.Thread.{Local, begun, at_instruction, next_of, silent_of, is_end, java_code}
use Rattle.interp_plans.specs.Todos.{plan_at, waiting}
use Rattle.interp_plans.specs.Uses.{frame_of, use_by}
use Rattle.interp_plans.proofs.BeginLemmas.{has_room}
use Rattle.interp_calls.specs.Local.{local_of, local_over, saved_locals, waiting_below}

-- ---- an instruction that needs no operation

moves_at : (us : List ClassUnit) (me : ℕ) (f g : Frame) (o : Option (Instr Target)) → row_at us f o ≡ moves g → at_instruction us me f o ≡ silently (ready (goes g))
moves_at us me f g None is = search
moves_at us me f g (Some i) is = ap (by_local us me f i.what) is

pub begun_moves : (us : List ClassUnit) (me : ℕ) (s : FrameStack) (g : Frame) → local_now us (steps_of us s.here.method) s ≡ moves g
    → begun us me (frame_of s.here) ≡ silently (ready (goes g))
begun_moves us me s g is = has_room us me s.here ∙ moves_at us me (frame_of s.here) g (slice_get (steps_of us s.here.method) s.here.step) is

silent_for : (us : List ClassUnit) (me : ℕ) (f : Frame) (what : What Target) (r : LocalRow) → kind_of r ≡ Moved → next_of (by_local us me f what r) ≡ Silent
silent_for us me f what (moves g) is = refl
silent_for us me f what (fails_by c) is = search
silent_for us me f what no_row is = search

silent_at : (us : List ClassUnit) (me : ℕ) (f : Frame) (o : Option (Instr Target)) → kind_of (row_at us f o) ≡ Moved → next_of (at_instruction us me f o) ≡ Silent
silent_at us me f None is = search
silent_at us me f (Some i) is = silent_for us me f i.what (local_row us f i.what f.stack) is

pub begun_silent : (us : List ClassUnit) (me : ℕ) (s : FrameStack) → kind_of (local_now us (steps_of us s.here.method) s) ≡ Moved
    → next_of (begun us me (frame_of s.here)) ≡ Silent
begun_silent us me s is = ap next_of (has_room us me s.here)
    ∙ silent_at us me (frame_of s.here) (slice_get (steps_of us s.here.method) s.here.step) is

stays_for : (us : List ClassUnit) (me : ℕ) (f : Frame) (what : What Target) (r : LocalRow) → kind_of r ≡ Moved → is_end (by_local us me f what r) ≡ false
stays_for us me f what (moves g) is = refl
stays_for us me f what (fails_by c) is = search
stays_for us me f what no_row is = search

stays_at : (us : List ClassUnit) (me : ℕ) (f : Frame) (o : Option (Instr Target)) → kind_of (row_at us f o) ≡ Moved → is_end (at_instruction us me f o) ≡ false
stays_at us me f None is = search
stays_at us me f (Some i) is = stays_for us me f i.what (local_row us f i.what f.stack) is

pub begun_stays : (us : List ClassUnit) (me : ℕ) (s : FrameStack) → kind_of (local_now us (steps_of us s.here.method) s) ≡ Moved
    → is_end (begun us me (frame_of s.here)) ≡ false
begun_stays us me s is = ap is_end (has_room us me s.here)
    ∙ stays_at us me (frame_of s.here) (slice_get (steps_of us s.here.method) s.here.step) is

-- ---- one quiet step

pub quiet_is : (l m : Local) → next_of l.plan ≡ Silent → silent_of l.program l.thread l.plan l.below ≡ m → suc (length m.below) ≤ 1024
    → quiet_step java_code l ≡ Some m
quiet_is l m silent leads few =
    let test : nat_le (suc (length m.below)) 1024 ≡ true = grind (arith, nat_tests, few) in
    ap (quiet_to java_code (silent_of l.program l.thread l.plan l.below)) silent
    ∙ ap (λ x. quiet_to java_code x Silent) leads
    ∙ ap (λ b. if b then Some m else None) test

pub below_count : (us : List ClassUnit) (me : ℕ) (s : FrameStack) → frame_count s ≤ 1024 → suc (length (waiting_below us me s.below)) ≤ 1024
below_count us me s few = omega (arith, few, length-map s.below (λ (f : StackFrame). waiting us me (frame_of f) f.stage))

-- ---- the end of a frame that was on top at a save

abbrev leaves_with : List ClassUnit → ℕ → List StackFrame → List Saved → Plan → Bool
leaves_with us me below saves plan =
    list_any (λ (save : Local). is_end plan && (length save.below == length (waiting_below us me below))) (map (λ (v : Saved). local_over us me v.here v.below) saves)

depth_of : (us : List ClassUnit) (me : ℕ) (fs : List StackFrame) → length (waiting_below us me fs) ≡ length fs
depth_of us me fs = length-map fs (λ (f : StackFrame). waiting us me (frame_of f) f.stage)

saves_leave : (us : List ClassUnit) (me : ℕ) (below : List StackFrame) (plan : Plan) (saves : List Saved) → is_end plan ≡ true
    → leaves_with us me below saves plan ≡ list_any (λ (v : Saved). length v.below == length below) saves
saves_leave us me below plan [] ending = refl
saves_leave us me below plan (v ∷ vs) ending =
    ap (λ e. (e && (length (waiting_below us me v.below) == length (waiting_below us me below))) || leaves_with us me below vs plan) ending
    ∙ ap (λ n. (n == length (waiting_below us me below)) || leaves_with us me below vs plan) (depth_of us me v.below)
    ∙ ap (λ n. (length v.below == n) || leaves_with us me below vs plan) (depth_of us me below)
    ∙ ap (λ b. (length v.below == length below) || b) (saves_leave us me below plan vs ending)

pub saves_stay : (us : List ClassUnit) (me : ℕ) (below : List StackFrame) (plan : Plan) (saves : List Saved) → is_end plan ≡ false
    → leaves_with us me below saves plan ≡ false
saves_stay us me below plan [] ending = refl
saves_stay us me below plan (v ∷ vs) ending =
    ap (λ e. (e && (length (waiting_below us me v.below) == length (waiting_below us me below))) || leaves_with us me below vs plan) ending
    ∙ saves_stay us me below plan vs ending

-- what leaves is the end of a frame that was on top at a save
pub leaves_is : (us : List ClassUnit) (me : ℕ) (s : FrameStack) (plan : Plan) → plan_at us me (frame_of s.here) s.here.stage ≡ plan → is_end plan ≡ true
    → leaves_any java_code (saved_locals us me s) (local_of us me s) ≡ was_saved s
leaves_is us me s plan is ending = ap (leaves_with us me s.below s.saves) is ∙ saves_leave us me s.below plan s.saves ending

pub leaves_not : (us : List ClassUnit) (me : ℕ) (s : FrameStack) (plan : Plan) → plan_at us me (frame_of s.here) s.here.stage ≡ plan → is_end plan ≡ false
    → leaves_any java_code (saved_locals us me s) (local_of us me s) ≡ false
leaves_not us me s plan is ending = ap (leaves_with us me s.below s.saves) is ∙ saves_stay us me s.below plan s.saves ending

pub value_stays : (f : Frame) (caller : Caller) (rest words : List ℕ) → is_end (silently ((use_by f caller rest).value words)) ≡ false
value_stays f Instruction rest words = refl
value_stays f Launch rest words = refl
