-- What is left of an instruction, as a plan.
use Rattle.std.specs.Prelude.{ℕ, List, [], ◌∷◌, ◌++◌, drop}
use Rattle.code_decode.specs.declared.code.ClassUnit.{ClassUnit}
use Rattle.frame_snapshot.specs.declared.stage.Caller.{Caller}
use Rattle.frame_snapshot.specs.declared.stage.FrameStage.{FrameStage}
use Rattle.frame_snapshot.specs.declared.stage.FrameStage.TheVariants as stages
use Rattle.frame_snapshot.specs.declared.todo.Todo.{Todo}
use Rattle.frame_snapshot.specs.declared.todo.Todo.TheVariants as todos
use Rattle.java_rows.specs.Calls.{after_call}
use Rattle.java_rows.specs.Plan.{at_step, notifies, finds, Frame, FrameEnd, goes, ends, Plan, want, silently, calls, ready, over, stuck, completes, thrown_in}
use Rattle.java_rows.specs.Thread.{begun}
use Rattle.text_stages.specs.Stages.{stage_plan, start_of}
use Rattle.interp_plans.specs.declared.reached.Reached.{Reached}
use Rattle.interp_plans.specs.declared.reached.Reached.TheVariants as reached
use Rattle.interp_plans.specs.Initializing.{chain_of, after_initializer}
use Rattle.interp_plans.specs.Jobs.{job_of}
use Rattle.interp_plans.specs.Replies.{then_of}
use Rattle.interp_plans.specs.Uses.{use_by, use_at, arguments_at, end_of, value_words}

abbrev pub plan_of : List ClassUnit → ℕ → Frame → Todo → Plan
plan_of us me f (todos.Wants op then) = want op (then_of us me f then)
plan_of us me f (todos.Completes site value) = silently ((use_at f site).value (value_words value))
plan_of us me f (todos.Catches entry r) =
    silently (ready (goes (record f { step = entry; task = at_step; stack = r ∷ [] })))
plan_of us me f (todos.Ends outcome) = silently (ready (ends (end_of outcome)))
plan_of us me f (todos.Calls id site monitor) =
    calls id (arguments_at f site) monitor (after_call (use_at f site))
plan_of us me f (todos.Initializes id caller i) =
    calls id [] 0 (after_initializer us me f caller (chain_of us f caller) i)
plan_of us me f (todos.Texts site job) =
    stage_plan us (use_at f site) (job_of job) (start_of (job_of job)) [] [] []
plan_of us me f todos.Over = over
plan_of us me f todos.Stuck = stuck

-- ---- after a reply or a silent step

abbrev pub again_with : Frame → Caller → List ℕ → (ℕ → Plan) → Plan
again_with f caller (r ∷ rest) plan = plan r
again_with f caller [] plan = stuck

abbrev pub plan_reached : List ClassUnit → ℕ → Frame → Reached → Plan
plan_reached us me f (reached.Goes todo) = plan_of us me f todo
plan_reached us me f (reached.Completed operands value) = completes f (value_words value ++ drop operands f.stack)
plan_reached us me f (reached.Throws r c) = thrown_in f r c
plan_reached us me f (reached.NotifiesAgain caller) =
    again_with f caller f.stack (λ r. (use_by f caller (drop 1 f.stack)).again (notifies r))
plan_reached us me f (reached.Finds caller v) =
    again_with f caller f.stack (λ r. (use_by f caller (drop 1 f.stack)).again (finds v))

-- ---- frames

-- of the top frame
abbrev pub plan_at : List ClassUnit → ℕ → Frame → FrameStage → Plan
plan_at us me f stages.Begun = begun us me f
plan_at us me f (stages.Inside todo) = plan_of us me f todo
plan_at us me f _ = stuck

-- of a frame below it
abbrev pub waiting : List ClassUnit → ℕ → Frame → FrameStage → FrameEnd → Plan
waiting us me f (stages.Calls caller) = after_call (use_by f caller f.stack)
waiting us me f (stages.Initializing caller i) = after_initializer us me f caller (chain_of us f caller) i
waiting us me f _ = λ outcome. stuck
