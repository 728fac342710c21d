-- How a Java thread goes on from each of its local states (JVMS 2.5, 2.6).
use Rattle.std.specs.Prelude.{ℕ, suc, ◌-◌, ◌==◌, ◌&&◌, Bool, true, false, Option, None, Some, List, [], ◌∷◌, ◌++◌, length, drop, replicate, slice_get, option_and_then, nat_le, if◌then◌else◌}
use Rattle.code_decode.specs.declared.code.ClassUnit.{ClassUnit}
use Rattle.code_decode.specs.declared.code.Code.{Code as MethodCode}
use Rattle.instructions.specs.declared.what.Instr.{Instr}
use Rattle.instructions.specs.declared.what.Target.{Target}
use Rattle.link_types.specs.declared.operands.MethodId.{MethodId}
use Rattle.link_rules.specs.FixedObjects.{arguments_object, main_thread_object}
use Rattle.link_rules.specs.Layout.{object_words}
use Rattle.link_rules.specs.Methods.{method_code}
use Rattle.link_rules.specs.Names.{program_names}
use Rattle.op_core.specs.declared.Next.{Next}
use Rattle.op_core.specs.declared.Next.TheVariants.{Silent, Want, Ended}
use Rattle.op_core.specs.declared.Reply.{Reply}
use Rattle.op_core.specs.ThreadCode.{Code}
use Rattle.java_rows.specs.Calls.{invokes, invokes_selected, goes_on_at}
use Rattle.java_rows.specs.Initialization.{initializes}
use Rattle.java_rows.specs.Plan.{Task, at_step, Frame, FrameEnd, goes, throws, ends, launches, Plan, want, silently, calls, ready, over, stuck, asks_class, ends_thread, Use, use_in}
use Rattle.java_rows.specs.Program.{steps_of, initialized_with, select, thread_run}
use Rattle.java_rows.specs.Rows.{row}
use Rattle.java_rows.specs.Throws.{looks_for}

-- ---- frames

abbrev pub at_instruction : List ClassUnit → ℕ → Frame → Option (Instr Target) → Plan
at_instruction us me f (Some instruction) = row us me f instruction.what
at_instruction us me f None = stuck

-- the row of the frame's instruction, or how a call of it goes on that begins again: its one operand is the receiver,
-- or the target of a Thread
abbrev pub at_task : List ClassUnit → ℕ → Frame → Task → Plan
at_task us me f at_step = at_instruction us me f (slice_get (steps_of us f.method) f.step)
at_task us me f task = goes_on_at us me (use_in f (drop 1 f.stack)) task

-- what the frame does next; one whose stack is too deep has no row
abbrev pub begun : List ClassUnit → ℕ → Frame → Plan
begun us me f = if nat_le (length f.stack) f.room then at_task us me f f.task else stuck

-- the frame of a method as it begins: the arguments are its first locals, the others 0
abbrev pub frame_of_code : MethodId → List ℕ → ℕ → MethodCode → Option Frame
frame_of_code id args monitor code =
    if nat_le (length args) code.max_locals
    then Some (record {
      method = id;
      step = 0;
      task = at_step;
      locals = args ++ replicate (code.max_locals - length args) 0;
      stack = [];
      room = code.max_stack;
      monitor = monitor;
    })
    else None

abbrev pub first_frame : List ClassUnit → MethodId → List ℕ → ℕ → Option Frame
first_frame us id args monitor = option_and_then (frame_of_code id args monitor) (method_code us id)

abbrev pub begun_first : List ClassUnit → ℕ → Option Frame → Plan
begun_first us me (Some f) = begun us me f
begun_first us me None = stuck

-- ---- threads

-- a local state: the program, the thread's own object, what is left of the top frame's instruction, and what follows
-- in each frame that waits for a call, the nearest first
pub record Local : Type 0 where
  pub program : List ClassUnit
  pub thread : ℕ
  pub plan : Plan
  pub below : List (FrameEnd → Plan)

-- the lowest frame of a thread calls its first method, and ends the thread
abbrev pub launch : Use
launch = record {
  value = λ words. ends_thread None;
  thrown = λ r c. ends_thread (Some c);
  again = λ task. ready (launches task);
}

abbrev pub at : List ClassUnit → ℕ → Plan → List (FrameEnd → Plan) → Local
at us me plan below = record { program = us; thread = me; plan = plan; below = below }

-- where an instruction is complete: its frame goes on, looks for a handler, or ends for the one below
abbrev pub settled : List ClassUnit → ℕ → Plan → List (FrameEnd → Plan) → Local
settled us me (ready (goes f)) below = at us me (begun us me f) below
settled us me (ready (throws f r c)) below = at us me (looks_for us f r c) below
settled us me (ready (ends outcome)) [] = at us me stuck []
settled us me (ready (ends outcome)) (k ∷ below) = settled us me (k outcome) below
settled us me (ready (launches task)) below = at us me (goes_on_at us me launch task) below
settled us me (want op k) below = at us me (want op k) below
settled us me (silently plan) below = at us me (silently plan) below
settled us me (calls id args monitor k) below = at us me (calls id args monitor k) below
settled us me over below = at us me over below
settled us me stuck below = at us me stuck below

abbrev pub next_of : Plan → Next
next_of (want op k) = Want op
next_of (silently plan) = Silent
next_of (calls id args monitor k) = Silent
next_of _ = Ended

abbrev pub silent_of : List ClassUnit → ℕ → Plan → List (FrameEnd → Plan) → Local
silent_of us me (silently plan) below = settled us me plan below
silent_of us me (calls id args monitor k) below = at us me (begun_first us me (first_frame us id args monitor)) (k ∷ below)
silent_of us me plan below = at us me plan below

abbrev pub reply_of : List ClassUnit → ℕ → Plan → Reply → List (FrameEnd → Plan) → Local
reply_of us me (want op k) reply below = settled us me (k reply) below
reply_of us me plan reply below = at us me plan below

-- the next silent step ends the top frame
abbrev pub is_end : Plan → Bool
is_end (silently (ready (ends outcome))) = true
is_end _ = false

-- the first state of the thread that an object starts: its run is called
abbrev pub child_of : List ClassUnit → ℕ → Local
child_of us r = at us r (asks_class r (λ c n. invokes_selected us r (r ∷ []) launch (select us c thread_run))) []

abbrev pub java_code : Code Local
java_code = record {
  next = λ l. next_of l.plan;
  silent = λ l. silent_of l.program l.thread l.plan l.below;
  reply = λ l reply. reply_of l.program l.thread l.plan reply l.below;
  frames = λ l. suc (length l.below);
  child = λ l r. child_of l.program r;
  words = λ l c n. object_words (program_names l.program) c n;
  leaves = λ save now. is_end now.plan && (length save.below == length now.below);
}

-- the first state of thread 1: the class of `main` is initialized, then `main` is called with the empty array of its
-- arguments
abbrev pub calls_main : List ClassUnit → ℕ → MethodId → Plan
calls_main us me main = invokes us me main (arguments_object (program_names us) ∷ []) launch

abbrev pub main_state : List ClassUnit → ℕ → MethodId → Local
main_state us me main =
    settled us me (initializes us (initialized_with us main.class) (calls_main us me main) launch.thrown) []

abbrev pub first_state : List ClassUnit → MethodId → Local
first_state us main = main_state us (main_thread_object (program_names us)) main
