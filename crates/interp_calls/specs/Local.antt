-- The local state of a thread that its frames stand for.
use Rattle.std.specs.Prelude.{ℕ, ◌+◌, Bool, true, false, Option, None, Some, List, map, drop, nat_le, option_and_then, if◌then◌else◌}
use Rattle.code_decode.specs.declared.code.ClassUnit.{ClassUnit}
use Rattle.code_decode.specs.declared.code.Code.{Code}
use Rattle.frame_snapshot.specs.FrameStack.{Frame, Saved, FrameStack}
use Rattle.frame_snapshot.specs.declared.stage.CallSite.{CallSite}
use Rattle.frame_snapshot.specs.declared.stage.FrameStage.{FrameStage}
use Rattle.frame_snapshot.specs.declared.stage.FrameStage.TheVariants as stages
use Rattle.link_types.specs.declared.operands.MethodId.{MethodId}
use Rattle.link_rules.specs.Methods.{method_code}
use Rattle.java_rows.specs.Plan.{Frame as PlanFrame, FrameEnd, Plan}
use Rattle.java_rows.specs.Thread.{Local}
use Rattle.text_stages.specs.Stages.{stage_plan}
use Rattle.interp_plans.specs.Jobs.{job_of}
use Rattle.interp_plans.specs.Todos.{plan_at, waiting}
use Rattle.interp_plans.specs.Uses.{frame_of, use_at}
use Rattle.interp_texts.specs.declared.run.TextRun.{TextRun}
use Rattle.interp_texts.specs.Meaning.{stage_of}
use Rattle.interp_texts.specs.Told.{first_text, second_text}
use Rattle.interp_calls.specs.declared.calling.MethodCall.{MethodCall}

-- how the frames below the top one go on, the nearest first
abbrev pub waiting_below : List ClassUnit → ℕ → List Frame → List (FrameEnd → Plan)
waiting_below us me below = map (λ f. waiting us me (frame_of f) f.stage) below

abbrev pub local_over : List ClassUnit → ℕ → Frame → List Frame → Local
local_over us me here below = record {
  program = us;
  thread = me;
  plan = plan_at us me (frame_of here) here.stage;
  below = waiting_below us me below;
}

abbrev pub local_of : List ClassUnit → ℕ → FrameStack → Local
local_of us me s = local_over us me s.here s.below

-- ---- inside a method that reads or makes texts

-- what is left of it, where it is the call at a site
abbrev pub text_plan : List ClassUnit → PlanFrame → CallSite → TextRun → Plan
text_plan us f site run =
    stage_plan us (use_at f site) (job_of run.job) (stage_of run.stage) (first_text us run) (second_text us run) run.made.units

abbrev pub state_over : List ClassUnit → ℕ → FrameStack → TextRun → Option CallSite → Local
state_over us me s run None = local_of us me s
state_over us me s run (Some site) = record {
  program = us;
  thread = me;
  plan = text_plan us (frame_of s.here) site run;
  below = waiting_below us me s.below;
}

-- only at its own stage does a frame leave it to the thread where it is
abbrev pub stands_in : Option CallSite → FrameStage → Bool
stands_in None stage = true
stands_in (Some site) stages.Text = true
stands_in (Some site) stage = false

-- ---- saves

-- those of the saves, the last first
abbrev pub saved_locals : List ClassUnit → ℕ → FrameStack → List Local
saved_locals us me s = map (λ (save : Saved). local_over us me save.here save.below) s.saves

-- ---- calls

-- a frame while a call of it goes on
abbrev pub paused : Frame → MethodCall → Frame
paused f call = record f {
  stage = call.caller;
  stack = drop call.arguments f.stack;
  free = f.free + call.arguments;
}

-- the words of the locals and of the stack of a method's frame, which has this number of argument words
abbrev pub room_in : ℕ → Code → Option (ℕ × ℕ)
room_in arguments code =
    if nat_le arguments code.max_locals then Some (code.max_locals, code.max_stack) else None

abbrev pub room_for : List ClassUnit → MethodId → ℕ → Option (ℕ × ℕ)
room_for us id arguments = option_and_then (room_in arguments) (method_code us id)
