-- Calls that begin again, and callers that wait.
use Rattle.std.proofs.Common.{◌≡◌, ◌≤◌, ◌<◌, ◌+◌, ◌-◌, ℕ, true, List, [], ◌∷◌, ◌++◌, take, drop, length, refl, ap, sym, ◌∙◌, arith}
use Rattle.std.proofs.lemmas.Bool.Decides.{nat_tests}
use Rattle.std.proofs.lemmas.List.{length-drop}
use Rattle.std.specs.Prelude.{nat_le, if◌then◌else◌}
use Rattle.code_decode.specs.declared.code.ClassUnit.{ClassUnit}
use Rattle.frame_snapshot.specs.FrameStack.{Frame as StackFrame, FrameStack, resumed}
use Rattle.frame_snapshot.specs.declared.stage.CallSite.{CallSite}
use Rattle.frame_snapshot.specs.declared.stage.Caller.{Caller}
use Rattle.frame_snapshot.specs.declared.stage.Caller.TheVariants.{Instruction, Launch}
use Rattle.frame_snapshot.specs.declared.stage.FrameStage.TheVariants as stages
use Rattle.op_core.specs.declared.Op.TheVariants.{Notify, ClassOf}
use Rattle.java_rows.specs.Calls.{after_call, goes_on_at}
use Rattle.java_rows.specs.Plan.{notifies, finds, Frame, FrameEnd, ends, ready, Plan, want, stuck, use_in}
use Rattle.java_rows.specs.Thread.{at, settled}
use Rattle.interp_plans.specs.Replies.{notified_all_then, finds_run_then}
use Rattle.interp_plans.specs.Todos.{plan_at, waiting}
use Rattle.interp_plans.specs.Uses.{frame_of, use_at, use_by}
use Rattle.interp_calls.specs.declared.calling.MethodCall.{MethodCall}
use Rattle.interp_calls.specs.Local.{local_of, paused, waiting_below}

-- ---- notifyAll, and run of a target

abbrev pub with_top : StackFrame → ℕ → List ℕ → Frame
with_top f r rest = record (frame_of f) { stack = r ∷ rest }

fits : (f : StackFrame) (t v : ℕ) (rest : List ℕ) → f.stack ≡ t ∷ rest → nat_le (length (v ∷ rest)) (length f.stack + f.free) ≡ true
fits f t v rest is = let same : length f.stack ≡ length (v ∷ rest) = ap length is in grind (arith, nat_tests, same)

pub notifies_again : (us : List ClassUnit) (me : ℕ) (f : StackFrame) (caller : Caller) (r : ℕ) (rest : List ℕ) (below : List (FrameEnd → Plan)) → f.stack ≡ r ∷ rest
    → settled us me ((use_by (frame_of f) caller rest).again (notifies r)) below
    ≡ at us me (want (Notify r) (notified_all_then (frame_of f) caller f.stack)) below
notifies_again us me f Instruction r rest below is =
    ap (λ b. at us me (if b then goes_on_at us me (use_in (record (frame_of f) { task = notifies r; stack = r ∷ rest }) rest) (notifies r) else stuck) below) (fits f r r rest is)
    ∙ ap (λ s. at us me (want (Notify r) (notified_all_then (frame_of f) Instruction s)) below) (sym is)
notifies_again us me f Launch r rest below is = ap (λ s. at us me (want (Notify r) (notified_all_then (frame_of f) Launch s)) below) (sym is)

pub finds_again : (us : List ClassUnit) (me : ℕ) (f : StackFrame) (caller : Caller) (t v : ℕ) (rest : List ℕ) (below : List (FrameEnd → Plan)) → f.stack ≡ t ∷ rest
    → settled us me ((use_by (frame_of f) caller rest).again (finds v)) below
    ≡ at us me (want (ClassOf v) (finds_run_then us me (with_top f v rest) caller (v ∷ rest))) below
finds_again us me f Instruction t v rest below is =
    ap (λ b. at us me (if b then goes_on_at us me (use_in (record (frame_of f) { task = finds v; stack = v ∷ rest }) rest) (finds v) else stuck) below) (fits f t v rest is)
finds_again us me f Launch t v rest below is = refl

-- ---- the end of a frame

no_words : (xs : List ℕ) → take 0 xs ≡ []
no_words [] = refl
no_words (x ∷ xs) = refl

-- a frame that ends without words leaves the one below as it is
resumed_none : (s : FrameStack) (f : StackFrame) (fs : List StackFrame) → resumed s 0 (f ∷ fs) ≡ record { here = f; below = fs; saves = s.saves }
resumed_none s f fs =
    let same : f.free - 0 ≡ f.free = omega arith in
    ap (λ (xs : List ℕ). record { here = record f { stack = xs ++ f.stack; free = f.free - 0 }; below = fs; saves = s.saves }) (no_words s.here.stack)
    ∙ ap (λ (n : ℕ). record { here = record f { free = n }; below = fs; saves = s.saves }) same

ends_over : (us : List ClassUnit) (me : ℕ) (s : FrameStack) (outcome : FrameEnd) (below : List StackFrame) → 0 < length below
    → settled us me (ready (ends outcome)) (waiting_below us me below)
    ≡ settled us me (waiting us me (frame_of (resumed s 0 below).here) (resumed s 0 below).here.stage outcome) (waiting_below us me (resumed s 0 below).below)
ends_over us me s outcome [] some = absurd (omega (arith, some))
ends_over us me s outcome (f ∷ fs) some =
    ap (λ (x : FrameStack). settled us me (waiting us me (frame_of x.here) x.here.stage outcome) (waiting_below us me x.below)) (sym (resumed_none s f fs))

pub ends_resumed : (us : List ClassUnit) (me : ℕ) (s new : FrameStack) (outcome : FrameEnd) → 0 < length s.below → new ≡ resumed s 0 s.below
    → settled us me (ready (ends outcome)) (waiting_below us me s.below)
    ≡ settled us me (waiting us me (frame_of new.here) new.here.stage outcome) (waiting_below us me new.below)
ends_resumed us me s new outcome some is = ends_over us me s outcome s.below some
    ∙ ap (λ (x : FrameStack). settled us me (waiting us me (frame_of x.here) x.here.stage outcome) (waiting_below us me x.below)) (sym is)

-- ---- a caller

paused_frame : (f : StackFrame) (call : MethodCall) → call.arguments ≤ length f.stack → frame_of (paused f call) ≡ record (frame_of f) { stack = drop call.arguments f.stack }
paused_frame f call within =
    let same : length (drop call.arguments f.stack) + (f.free + call.arguments) ≡ length f.stack + f.free = omega (arith, within, length-drop call.arguments f.stack) in
    ap (λ room. record (frame_of f) { stack = drop call.arguments f.stack; room = room }) same

use_by_stack : (f : Frame) (caller : Caller) (stack rest : List ℕ) → after_call (use_by (record f { stack = stack }) caller rest) ≡ after_call (use_by f caller rest)
use_by_stack f Instruction stack rest = refl
use_by_stack f Launch stack rest = refl

-- how the caller goes on after a call doesn't depend on the arguments
pub paused_waits : (us : List ClassUnit) (me : ℕ) (f : StackFrame) (call : MethodCall) (caller : Caller) → call.arguments ≤ length f.stack
    → waiting us me (frame_of (paused f call)) (stages.Calls caller) ≡ after_call (use_by (frame_of f) caller (drop call.arguments f.stack))
paused_waits us me f call caller within =
    ap (λ g. waiting us me g (stages.Calls caller)) (paused_frame f call within)
    ∙ use_by_stack (frame_of f) caller (drop call.arguments f.stack) (drop call.arguments f.stack)

-- the frame of a method was made, while its caller waits
pub entered : (us : List ClassUnit) (me : ℕ) (new : FrameStack) (f : StackFrame) (fs : List StackFrame) (call : MethodCall) (site : CallSite) (plan : Plan)
    → plan_at us me (frame_of new.here) new.here.stage ≡ plan → new.below ≡ paused f call ∷ fs → call.caller ≡ stages.Calls site.caller
    → call.arguments ≤ length f.stack → drop call.arguments f.stack ≡ drop site.operands f.stack
    → local_of us me new ≡ at us me plan (after_call (use_at (frame_of f) site) ∷ waiting_below us me fs)
entered us me new f fs call site plan planned below caller within rest =
    let waits : waiting us me (frame_of (paused f call)) call.caller ≡ after_call (use_at (frame_of f) site) =
    ap (waiting us me (frame_of (paused f call))) caller ∙ paused_waits us me f call site.caller within
    ∙ ap (λ xs. after_call (use_by (frame_of f) site.caller xs)) rest in
    ap (λ p. at us me p (waiting_below us me new.below)) planned
    ∙ ap (λ (b : List StackFrame). at us me plan (waiting_below us me b)) below
    ∙ ap (λ k. at us me plan (k ∷ waiting_below us me fs)) waits

-- the target of a thread takes the place of the thread
pub found : (f : StackFrame) (t v : ℕ) (rest : List ℕ) → f.stack ≡ t ∷ rest
    → record (frame_of f) { stack = v ∷ rest; room = length (v ∷ rest) + (f.free + 1 - 1) } ≡ with_top f v rest
found f t v rest is =
    let room : length (v ∷ rest) + (f.free + 1 - 1) ≡ length f.stack + f.free = let same : length f.stack ≡ length (v ∷ rest) = ap length is in omega (arith, same) in
    ap (λ n. record (frame_of f) { stack = v ∷ rest; room = n }) room
