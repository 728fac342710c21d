-- Where plans settle.
use Rattle.std.proofs.Common.{◌≡◌, ℕ, Option, None, Some, List, [], refl}
use Rattle.code_decode.specs.declared.code.ClassUnit.{ClassUnit}
use Rattle.code_decode.specs.declared.code.Handler.{Handler}
use Rattle.frame_snapshot.specs.declared.todo.Todo.{Todo}
use Rattle.frame_snapshot.specs.declared.todo.Todo.TheVariants as todos
use Rattle.java_rows.specs.Plan.{Frame, FrameEnd, Plan, bare}
use Rattle.java_rows.specs.Throws.{caught_by, looks_for, handler_for}
use Rattle.java_rows.specs.Thread.{at, settled}
use Rattle.text_stages.specs.Stages.{start_of}
use Rattle.text_stages.proofs.StandLaws.{stages_stand}
use Rattle.interp_plans.specs.Jobs.{job_of}
use Rattle.interp_plans.specs.Todos.{plan_of}
use Rattle.interp_plans.specs.Uses.{use_at}

-- what is to be done is no end of an instruction
pub todo_settles : (us : List ClassUnit) (me : ℕ) (f : Frame) (todo : Todo) (below : List (FrameEnd → Plan))
    → settled us me (plan_of us me f todo) below ≡ at us me (plan_of us me f todo) below
todo_settles us me f (todos.Wants op rest) below = refl
todo_settles us me f (todos.Completes site value) below = refl
todo_settles us me f (todos.Catches entry r) below = refl
todo_settles us me f (todos.Ends outcome) below = refl
todo_settles us me f (todos.Calls id site monitor) below = refl
todo_settles us me f (todos.Initializes id caller i) below = refl
todo_settles us me f (todos.Texts site job) below =
    stages_stand us me (use_at f site) (job_of job) (start_of (job_of job)) [] [] [] below
todo_settles us me f todos.Over below = refl
todo_settles us me f todos.Stuck below = refl

-- no handler looks at the stack
caught_bare : (f : Frame) (r c : ℕ) (h : Option Handler) → caught_by (bare f) r c h ≡ caught_by f r c h
caught_bare f r c None = refl
caught_bare f r c (Some h) = refl

pub looks_bare : (us : List ClassUnit) (f : Frame) (r c : ℕ) → looks_for us (bare f) r c ≡ looks_for us f r c
looks_bare us f r c = caught_bare f r c (handler_for us f c)
