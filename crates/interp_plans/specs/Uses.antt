-- How the parts of an instruction, and of the launch of a thread, go on: said of the frame and of who calls.
use Rattle.std.specs.Prelude.{ℕ, List, [], ◌∷◌, take, drop, reverse, length, ◌+◌}
use Rattle.frame_snapshot.specs.FrameStack.{Frame as StackFrame}
use Rattle.frame_snapshot.specs.declared.stage.CallSite.{CallSite}
use Rattle.frame_snapshot.specs.declared.stage.Caller.{Caller}
use Rattle.frame_snapshot.specs.declared.stage.Caller.TheVariants.{Instruction, Launch}
use Rattle.frame_snapshot.specs.declared.stage.FrameEnd.{FrameEnd as StackFrameEnd}
use Rattle.frame_snapshot.specs.declared.stage.FrameEnd.TheVariants.{Returned, Threw, Broke}
use Rattle.frame_snapshot.specs.declared.todo.Value.{Value}
use Rattle.frame_snapshot.specs.declared.todo.Value.TheVariants as values
use Rattle.java_rows.specs.Plan.{at_step, Frame, FrameEnd, returned, threw, broke, Plan, Use, use_in}
use Rattle.java_rows.specs.Thread.{launch}

-- a frame of a thread as the rows of instructions see it, at the beginning of its instruction
abbrev pub frame_of : StackFrame → Frame
frame_of f = record {
  method = f.method;
  step = f.step;
  task = at_step;
  locals = f.locals;
  stack = f.stack;
  room = length f.stack + f.free;
  monitor = f.monitor;
}

-- the words of a value, the top first
abbrev pub value_words : Value → List ℕ
value_words values.None = []
value_words (values.Word a) = a ∷ []
value_words (values.Long high low) = high ∷ low ∷ []

-- how the caller goes on, with what its stack is without operands
abbrev pub use_by : Frame → Caller → List ℕ → Use
use_by f Instruction rest = use_in f rest
use_by f Launch rest = launch

abbrev pub use_at : Frame → CallSite → Use
use_at f site = use_by f site.caller (drop site.operands f.stack)

-- the operands in the order of locals
abbrev pub arguments_at : Frame → CallSite → List ℕ
arguments_at f site = reverse (take site.operands f.stack)

-- with a thrown object of a class
abbrev pub thrown_by : Frame → Caller → ℕ → ℕ → Plan
thrown_by f caller = (use_by f caller []).thrown

abbrev pub end_of : StackFrameEnd → FrameEnd
end_of (Returned value) = returned (value_words value)
end_of (Threw r c) = threw r c
end_of Broke = broke
