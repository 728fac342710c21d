-- What an instruction does: a tree of operations, and what follows each reply (JVMS 2.6, 2.11).
use Rattle.std.specs.Prelude.{ℕ, suc, ◌==◌, Bool, Option, List, [], ◌∷◌, ◌++◌, if◌then◌else◌}
use Rattle.builtin_world.specs.declared.number.TheConstants.{NULL_POINTER_EXCEPTION}
use Rattle.link_types.specs.declared.operands.MethodId.{MethodId}
use Rattle.op_core.specs.declared.Op.{Op}
use Rattle.op_core.specs.declared.Op.TheVariants.{ClassOf, Read, Write, New, Enter, Exit, InitDone, End}
use Rattle.op_core.specs.declared.Reply.{Reply}
use Rattle.op_core.specs.declared.Reply.TheVariants.{Class, Value, Made, Done, NotOwner, Ready, Bad, Claimed}

-- where an instruction that begins again is
pub data Task : Type 0 where
  -- at its beginning
  at_step : Task
  -- at the next notification of notifyAll on an object
  notifies : ℕ → Task
  -- at the call of run on the target of a thread
  finds : ℕ → Task

-- a frame (JVMS 2.6); the top of the operand stack comes first
pub record Frame : Type 0 where
  pub method : MethodId
  -- the number of the instruction
  pub step : ℕ
  pub task : Task
  pub locals : List ℕ
  pub stack : List ℕ
  -- how many words the stack may have
  pub room : ℕ
  -- the object that a synchronized method entered, or 0
  pub monitor : ℕ

-- how a frame ends for the one below it
pub data FrameEnd : Type 0 where
  -- with the words of a value, the top first
  returned : List ℕ → FrameEnd
  -- by an object, of a class, that was thrown
  threw : ℕ → ℕ → FrameEnd
  -- the monitor of a synchronized method wasn't owned at its end (JVMS 2.11.10)
  broke : FrameEnd

-- what an instruction comes to
pub data Ending : Type 0 where
  -- its frame goes on
  goes : Frame → Ending
  -- an object, of a class, is thrown in its frame
  throws : Frame → ℕ → ℕ → Ending
  -- its frame ends
  ends : FrameEnd → Ending
  -- the launch of a thread goes on
  launches : Task → Ending

-- what is left of an instruction
pub data Plan : Type 0 where
  -- one operation, and what follows each reply
  want : Op → (Reply → Plan) → Plan
  -- one silent step, and what follows it
  silently : Plan → Plan
  -- one silent step makes the frame of a method: its first locals, the object that it entered or 0, and what follows
  -- its end
  calls : MethodId → List ℕ → ℕ → (FrameEnd → Plan) → Plan
  -- nothing: it is complete
  ready : Ending → Plan
  -- the thread has ended
  over : Plan
  -- no row: something is missing, or a reply doesn't fit
  stuck : Plan

-- ---- what follows a reply

abbrev pub on_class : (ℕ → ℕ → Plan) → Reply → Plan
on_class k (Class c n) = k c n
on_class k _ = stuck

abbrev pub on_value : (ℕ → Plan) → Reply → Plan
on_value k (Value v) = k v
on_value k _ = stuck

abbrev pub on_made : (ℕ → Plan) → Reply → Plan
on_made k (Made r) = k r
on_made k _ = stuck

abbrev pub on_done : Plan → Reply → Plan
on_done k Done = k
on_done k _ = stuck

abbrev pub on_owner : Plan → Plan → Reply → Plan
on_owner k other Done = k
on_owner k other NotOwner = other
on_owner k other _ = stuck

abbrev pub on_init : Plan → Plan → Plan → Reply → Plan
on_init k bad mine Ready = k
on_init k bad mine Bad = bad
on_init k bad mine Claimed = mine
on_init k bad mine _ = stuck

-- ---- one operation

-- the class and the length of an object
abbrev pub asks_class : ℕ → (ℕ → ℕ → Plan) → Plan
asks_class r k = want (ClassOf r) (on_class k)

abbrev pub reads : ℕ → ℕ → (ℕ → Plan) → Plan
reads r i k = want (Read r i) (on_value k)

abbrev pub writes : ℕ → ℕ → ℕ → Plan → Plan
writes r i v k = want (Write r i v) (on_done k)

abbrev pub makes : ℕ → ℕ → (ℕ → Plan) → Plan
makes c n k = want (New c n) (on_made k)

abbrev pub enters : ℕ → Plan → Plan
enters r k = want (Enter r) (on_done k)

-- `other` follows where this thread doesn't own the monitor
abbrev pub exits : ℕ → Plan → Plan → Plan
exits r k other = want (Exit r) (on_owner k other)

-- the end of an initialization, well or not
abbrev pub settles : ℕ → Bool → Plan → Plan
settles c well k = want (InitDone c well) (on_done k)

abbrev pub ends_thread : Option ℕ → Plan
ends_thread x = want (End x) (on_done over)

-- ---- how an instruction goes on

-- how an instruction, or the launch of a thread, goes on where a part of it is through
pub record Use : Type 0 where
  -- with the words of a value
  pub value : List ℕ → Plan
  -- with a thrown object of a class
  pub thrown : ℕ → ℕ → Plan
  -- and begins again at a task
  pub again : Task → Plan

-- an exception of the machine: a new object of its class, whose message is null, is thrown
abbrev pub raises : Use → ℕ → Plan
raises u c = makes c 0 (λ r. u.thrown r c)

-- the frame at the next instruction, with this stack
abbrev pub after_step : Frame → List ℕ → Frame
after_step f stack = record f { step = suc f.step; task = at_step; stack = stack }

-- complete with the last reply
abbrev pub completes : Frame → List ℕ → Plan
completes f stack = ready (goes (after_step f stack))

-- the frame as a thrown object finds it: no handler looks at its stack
abbrev pub bare : Frame → Frame
bare f = record f { task = at_step; stack = [] }

abbrev pub thrown_in : Frame → ℕ → ℕ → Plan
thrown_in f r c = ready (throws (bare f) r c)

-- the one operand of a call that begins again
abbrev pub operand_of_task : Task → ℕ
operand_of_task at_step = 0
operand_of_task (notifies r) = r
operand_of_task (finds v) = v

-- a part of the frame's instruction, with what the stack is without its operands. What waits here can't depend on the
-- arguments of a call, which are the first locals of the method that is called.
abbrev pub use_in : Frame → List ℕ → Use
use_in f rest = record {
  value = λ words. completes f (words ++ rest);
  thrown = thrown_in f;
  again = λ task. ready (goes (record f { task = task; stack = operand_of_task task ∷ rest }));
}

-- an exception of the machine in this frame
abbrev pub fails : Frame → ℕ → Plan
fails f c = raises (use_in f []) c

abbrev pub unless_null : Frame → ℕ → Plan → Plan
unless_null f r k = if r == 0 then fails f NULL_POINTER_EXCEPTION else k
