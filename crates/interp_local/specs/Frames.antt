-- The frames of a thread as the rows of instructions see them.
use Rattle.std.specs.Prelude.{◌+◌, length}
use Rattle.frame_snapshot.specs.FrameStack.{FrameStack}
use Rattle.java_rows.specs.Plan.{at_step, Frame}

-- the top frame, at the beginning of its instruction
abbrev pub frame_now : FrameStack → Frame
frame_now s = record {
  method = s.here.method;
  step = s.here.step;
  task = at_step;
  locals = s.here.locals;
  stack = s.here.stack;
  room = length s.here.stack + s.here.free;
  monitor = s.here.monitor;
}
