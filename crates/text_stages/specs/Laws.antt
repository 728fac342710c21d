-- The stages are the plans of the methods.
use Rattle.std.specs.Prelude.{◌≡◌, ◌≢◌, List, ℕ, false}
use Rattle.builtin_world.specs.declared.Native.{Native}
use Rattle.code_decode.specs.declared.code.ClassUnit.{ClassUnit}
use Rattle.op_core.specs.declared.Reply.{Reply}
use Rattle.java_rows.specs.Natives.{native}
use Rattle.java_rows.specs.Plan.{Frame, FrameEnd, Plan, want, silently, calls, ready, over, stuck, Use, use_in}
use Rattle.java_rows.specs.Thread.{at, is_end, launch, settled}
use Rattle.text_stages.specs.Stages.{TextJob, TextStage, stage_plan, TextReached, reached_plan, text_next, text_silent, no_start, start_plan, text_start}

-- what a plan that wants an operation goes on with, and one that is silent
abbrev pub at_reply : Plan → Reply → Plan
at_reply (want op k) reply = k reply
at_reply _ reply = stuck

abbrev pub at_silent : Plan → Plan
at_silent (silently plan) = plan
at_silent _ = stuck

-- what a method does first
abbrev pub TextsBegin : Type 0
TextsBegin = (us : List ClassUnit) (me : ℕ) (u : Use) (n : Native) (args : List ℕ)
    → text_start n args ≢ no_start → native us me n args u ≡ start_plan us u (text_start n args)

-- a reply leads from stage to stage
abbrev pub RepliesLead : Type 0
RepliesLead = (us : List ClassUnit) (u : Use) (job : TextJob) (st : TextStage) (a b m : List ℕ) (reply : Reply)
    → at_reply (stage_plan us u job st a b m) reply ≡ reached_plan us u job (text_next us job st a b m reply)

abbrev pub SilentStepsLead : Type 0
SilentStepsLead = (us : List ClassUnit) (u : Use) (job : TextJob) (st : TextStage) (a b m : List ℕ)
    → at_silent (stage_plan us u job st a b m) ≡ reached_plan us u job (text_silent us job st a b m)

-- a thread that comes to a stage stays there
abbrev pub StagesStand : Type 0
StagesStand = (us : List ClassUnit) (me : ℕ) (u : Use) (job : TextJob) (st : TextStage) (a b m : List ℕ) (below : List (FrameEnd → Plan))
    → settled us me (stage_plan us u job st a b m) below ≡ at us me (stage_plan us u job st a b m) below

-- and no silent step of a text ends a frame
abbrev pub EndNoFrame : Use → Type 0
EndNoFrame u = (us : List ClassUnit) (job : TextJob) (st : TextStage) (a b m : List ℕ) → is_end (stage_plan us u job st a b m) ≡ false

abbrev pub TextsEndNoFrame : Type 0
TextsEndNoFrame = ((f : Frame) (rest : List ℕ) → EndNoFrame (use_in f rest)) × EndNoFrame launch
