-- The frames of a thread (JVMS 2.6), and what calls make of them.
use Rattle.std.specs.Prelude.{ℕ, suc, ◌+◌, ◌-◌, ◌==◌, Bool, List, [], ◌∷◌, ◌++◌, length, take, drop, reverse, replicate, slice_set}
use Rattle.std.specs.List.{list_any}
use Rattle.link_types.specs.declared.operands.MethodId.{MethodId}
use Rattle.frame_snapshot.specs.declared.stage.FrameStage.{FrameStage}
use Rattle.frame_snapshot.specs.declared.stage.FrameStage.TheVariants.{Begun}
use Rattle.frame_snapshot.specs.declared.frames.NewFrame.{NewFrame}

-- a frame; the top of the operand stack comes first
pub record Frame : Type 0 where
  pub method : MethodId
  -- the number of the instruction
  pub step : ℕ
  pub stage : FrameStage
  -- the object that a synchronized method entered, or 0
  pub monitor : ℕ
  pub locals : List ℕ
  pub stack : List ℕ
  -- how many words more the stack may have
  pub free : ℕ

-- a copy of the top frame, and the frames that lay below it
pub record Saved : Type 0 where
  pub here : Frame
  pub below : List Frame

-- the top frame, those below it, the nearest first, and the saves, the last first
pub record FrameStack : Type 0 where
  pub here : Frame
  pub below : List Frame
  pub saves : List Saved

-- the lowest frame of a thread, alone
abbrev pub launch_frame : MethodId → FrameStage → ℕ → FrameStack
launch_frame method stage room = record {
  here = record { method = method; step = 0; stage = stage; monitor = 0; locals = []; stack = []; free = room };
  below = [];
  saves = [];
}

-- the same with another top frame
abbrev pub with_here : FrameStack → Frame → FrameStack
with_here s f = record s { here = f }

abbrev pub with_step : FrameStack → ℕ → FrameStack
with_step s step = with_here s (record s.here { step = step })

abbrev pub with_stage : FrameStack → FrameStage → FrameStack
with_stage s stage = with_here s (record s.here { stage = stage })

abbrev pub with_local : FrameStack → ℕ → ℕ → FrameStack
with_local s n word = with_here s (record s.here { locals = slice_set s.here.locals n word })

abbrev pub with_word : FrameStack → ℕ → FrameStack
with_word s word = with_here s (record s.here { stack = word ∷ s.here.stack; free = s.here.free - 1 })

abbrev pub without_word : FrameStack → FrameStack
without_word s = with_here s (record s.here { stack = drop 1 s.here.stack; free = s.here.free + 1 })

abbrev pub without_words : FrameStack → ℕ → FrameStack
without_words s count = with_here s (record s.here { stack = drop count s.here.stack; free = s.here.free + count })

-- ---- calls

abbrev pub frame_count : FrameStack → ℕ
frame_count s = suc (length s.below)

-- the frame of a method as it begins: words of the caller's stack are its first locals, the others are 0
abbrev pub called_frame : NewFrame → List ℕ → Frame
called_frame call stack = record {
  method = call.method;
  step = 0;
  stage = Begun;
  monitor = call.monitor;
  locals = reverse (take call.arguments stack) ++ replicate (call.max_locals - call.arguments) 0;
  stack = [];
  free = call.max_stack;
}

-- the caller while the call goes on
abbrev pub waiting_frame : NewFrame → Frame → Frame
waiting_frame call f =
    record f { stage = call.caller; stack = drop call.arguments f.stack; free = f.free + call.arguments }

abbrev pub with_call : FrameStack → NewFrame → FrameStack
with_call s call = record {
  here = called_frame call s.here.stack;
  below = waiting_frame call s.here ∷ s.below;
  saves = s.saves;
}

-- how many words the nearest of some frames has room for
abbrev pub nearest_room : List Frame → ℕ
nearest_room [] = 0
nearest_room (f ∷ fs) = f.free

-- the top frame ends: words of its stack's top go onto the stack of the nearest below
abbrev pub resumed_frame : Frame → ℕ → List ℕ → Frame
resumed_frame f words stack = record f { stack = take words stack ++ f.stack; free = f.free - words }

abbrev pub resumed : FrameStack → ℕ → List Frame → FrameStack
resumed s words [] = s
resumed s words (f ∷ fs) = record { here = resumed_frame f words s.here.stack; below = fs; saves = s.saves }

abbrev pub without_call : FrameStack → ℕ → FrameStack
without_call s words = resumed s words s.below

-- ---- saves

abbrev pub with_save : FrameStack → FrameStack
with_save s = record s { saves = record { here = s.here; below = s.below } ∷ s.saves }

abbrev pub without_save : FrameStack → FrameStack
without_save s = record s { saves = drop 1 s.saves }

abbrev pub gone_back : FrameStack → List Saved → FrameStack
gone_back s [] = s
gone_back s (save ∷ saves) = record { here = save.here; below = save.below; saves = saves }

-- the frames of the last save, which is taken off
abbrev pub restored : FrameStack → FrameStack
restored s = gone_back s s.saves

-- the top frame was on top at a save
abbrev pub was_saved : FrameStack → Bool
was_saved s = list_any (λ save. length save.below == length s.below) s.saves

-- the same frames with nothing saved
abbrev pub unsaved : FrameStack → FrameStack
unsaved s = record s { saves = [] }
