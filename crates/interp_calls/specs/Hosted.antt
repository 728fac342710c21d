-- A thread of a Java program that goes on while a host answers its operations.
use Rattle.std.specs.Prelude.{◌≡◌, ℕ, Option, None, Some, List}
use Rattle.code_decode.specs.declared.code.ClassUnit.{ClassUnit}
use Rattle.frame_snapshot.specs.FrameStack.{FrameStack}
use Rattle.frame_snapshot.specs.declared.stage.FrameStage.TheVariants.{Begun}
use Rattle.op_core.specs.declared.Op.{Op}
use Rattle.op_core.specs.declared.Reply.{Reply}
use Rattle.op_core.specs.Hosted.{HostedMove, Lead, IsLedTo}
use Rattle.java_rows.specs.Plan.{Frame, goes, Plan, ready}
use Rattle.java_rows.specs.Thread.{Local, java_code, settled}
use Rattle.interp_plans.specs.Replies.{then_of}
use Rattle.interp_plans.specs.Todos.{plan_of, plan_reached}
use Rattle.interp_plans.specs.Uses.{frame_of}
use Rattle.interp_calls.specs.Local.{local_of, waiting_below}
use Rattle.interp_calls.specs.declared.hosted.AfterAsking.{AfterAsking}
use Rattle.interp_calls.specs.declared.hosted.AfterAsking.TheVariants as asked
use Rattle.interp_calls.specs.declared.hosted.Halt.{Halt}
use Rattle.interp_calls.specs.declared.hosted.Halt.TheVariants as halts

-- what is left of the top frame's instruction
abbrev pub plan_halted : List ClassUnit → ℕ → Frame → Halt → Plan
plan_halted us me f halts.Begins = ready (goes f)
plan_halted us me f (halts.Goes todo) = plan_of us me f todo
plan_halted us me f (halts.Replied then reply) = then_of us me f then reply
plan_halted us me f (halts.Leads reached) = plan_reached us me f reached

-- the local state of a thread whose top frame came this far
abbrev pub halted_local : List ClassUnit → ℕ → FrameStack → Halt → Local
halted_local us me s halt = settled us me (plan_halted us me (frame_of s.here) halt) (waiting_below us me s.below)

-- The top frame is at the beginning of an instruction of the same method; the frames below and the saves are the same.
pub record StaysBegun (old new : FrameStack) : Type 0 where
  pub stage : new.here.stage ≡ Begun
  pub method : new.here.method ≡ old.here.method
  pub below : new.below ≡ old.below
  pub saves : new.saves ≡ old.saves

-- Some moves lead the thread from the local state l at the host h to the local state m at the host k.
abbrev pub HostedTo : {H : Type 0} → List Local → (H → ℕ → H → Type 0) → (H → Op → Reply → H → Type 0) → Local → H → Local → H → Type 0
HostedTo saves passes answers l h m k = (moves : List HostedMove) × Lead java_code saves passes answers l h moves m k

-- Moves from the local state l at the host h lead to where the top frame is now. None: it is at the beginning of an instruction.
-- Some halt: the frames are unchanged, and the thread is at this halt; only where that is `Goes` may the host have declined what
-- is wanted. Nothing says that the instruction was completed.
abbrev pub GoneTo : {H : Type 0} → List ClassUnit → ℕ → List Local → (H → ℕ → H → Type 0) → (H → Op → Reply → H → Type 0) → (H → Op → H → Type 0)
    → Local → H → FrameStack → Option Halt → FrameStack → H → Type 0
GoneTo us me saves passes answers declines l h old None new k = HostedTo saves passes answers l h (local_of us me new) k × StaysBegun old new
GoneTo us me saves passes answers declines l h old (Some (halts.Goes todo)) new k =
    IsLedTo java_code saves passes answers declines l h (halted_local us me new (halts.Goes todo)) k × (new ≡ old)
GoneTo us me saves passes answers declines l h old (Some halt) new k = HostedTo saves passes answers l h (halted_local us me new halt) k × (new ≡ old)

-- The same where one operation was asked: it may have been answered, and the instruction goes on.
abbrev pub AskedTo : {H : Type 0} → List ClassUnit → ℕ → List Local → (H → ℕ → H → Type 0) → (H → Op → Reply → H → Type 0) → (H → Op → H → Type 0)
    → Local → H → FrameStack → AfterAsking → FrameStack → H → Type 0
AskedTo us me saves passes answers declines l h old asked.Complete new k = GoneTo us me saves passes answers declines l h old None new k
AskedTo us me saves passes answers declines l h old (asked.Goes todo) new k = HostedTo saves passes answers l h (halted_local us me new (halts.Goes todo)) k × (new ≡ old)
AskedTo us me saves passes answers declines l h old (asked.Halts halt) new k = GoneTo us me saves passes answers declines l h old (Some halt) new k
