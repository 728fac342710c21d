-- What the state of a machine holds: the ordinary state, and what a thread's next step of its own accord needs besides.
use Rattle.std.specs.Prelude.{◌≡◌, ℕ, zero, suc, ◌+◌, ◌<◌, Some, [], ◌∷◌, ◌++◌}
use Rattle.op_core.specs.declared.Line.{Line}
use Rattle.op_core.specs.declared.Op.{Op}
use Rattle.op_core.specs.declared.Op.TheVariants.{New, Start}
use Rattle.op_core.specs.declared.Reply.{Reply}
use Rattle.op_core.specs.declared.Reply.TheVariants.{Made, Number, Woken}
use Rattle.op_core.specs.declared.Next.TheVariants.{Silent, Want}
use Rattle.op_core.specs.ThreadCode.{Code, quiet_step, quiet_steps}
use Rattle.op_core.specs.Replies.{FitsNext}
use Rattle.op_core.specs.OrdinaryState.{view_of, set_at, free, Monitor, Waiting, ClassState, Thread, unused, live, ended, OrdinaryState}
use Rattle.op_core.specs.OrdinaryStep.{objects_after, words_after, monitors_after, waiting_after, classes_after, starts_after, lines_after, after}
use Rattle.machine_state.specs.declared.state.MachineState.{MachineState}
use Rattle.machine_tables.specs.Tables.{object_at, objects_in, words_in, monitors_in, starts_in, classes_in, seat_at, threads_in, waiting_in, silents_in}

pub record Machine (S : Type 0) : Type 0 where
  pub now : OrdinaryState S
  -- by thread number: how many silent steps were made since the thread's last event
  pub silents : ℕ → ℕ
  -- the first reference that New gave out or will
  pub first : ℕ
  -- how many words of memory the new objects have taken
  pub taken : ℕ

abbrev pub machine_in : {C S : Type 0} → (C → S) → MachineState C → Machine S
machine_in state m = record {
  now = record {
    objects = objects_in (object_at m.objects);
    words = words_in (object_at m.objects);
    monitors = monitors_in (object_at m.objects);
    waiting = waiting_in (seat_at m.threads);
    classes = classes_in m.classes;
    starts = starts_in (object_at m.objects);
    threads = threads_in state (seat_at m.threads);
    lines = m.lines;
  };
  silents = silents_in (seat_at m.threads);
  first = m.first;
  taken = m.taken;
}

-- how many silent steps there are since each thread's last event, after an event of thread t: none of
-- its own, and none of a thread that begins
abbrev pub silents_after : ℕ → Op → Reply → (ℕ → ℕ) → ℕ → ℕ
silents_after t (Start r p) (Number n) f = set_at (set_at f n 0) t 0
silents_after t _ _ f = set_at f t 0

-- a new object takes a header, a monitor and its words
abbrev pub taken_after : {S : Type 0} → Code S → S → Op → Reply → ℕ → ℕ
taken_after code l (New c n) (Made r) taken = taken + (2 + code.words l c n)
taken_after code l _ _ taken = taken

-- what thread t's operation, wanted at the local state l, changes of all that threads share
abbrev pub shared_after : {S : Type 0} → Code S → Machine S → ℕ → S → Op → Reply → Machine S
shared_after code m t l op reply = record m {
  now = record m.now {
    objects = objects_after code l op reply m.now;
    words = words_after op reply m.now;
    monitors = monitors_after t op reply (view_of m.now);
    waiting = waiting_after t op reply (view_of m.now);
    classes = classes_after t op reply m.now;
    starts = starts_after op reply m.now;
    lines = lines_after op reply m.now;
  };
  taken = taken_after code l op reply m.taken;
}

-- the machine after thread t's operation, wanted at the local state l, was answered
abbrev pub moved : {S : Type 0} → Code S → Machine S → ℕ → S → Op → Reply → Machine S
moved code m t l op reply = record {
  now = after code m.now t l op reply;
  silents = silents_after t op reply m.silents;
  first = m.first;
  taken = taken_after code l op reply m.taken;
}

-- thread t at another place of its own, `silent` silent steps after its last event
abbrev pub with_thread_at : {S : Type 0} → Machine S → ℕ → Thread S → ℕ → Machine S
with_thread_at m t thread silent = record m {
  now = record m.now { threads = set_at m.now.threads t thread };
  silents = set_at m.silents t silent;
}

-- one part changed at one number
abbrev pub with_new_object : {S : Type 0} → Machine S → ℕ → ℕ → ℕ → ℕ → Machine S
with_new_object m r class length n = record m {
  now = record m.now {
    objects = set_at m.now.objects r (Some (record { class = class; length = length; words = n }));
    words = set_at m.now.words r (λ _. 0);
    monitors = set_at m.now.monitors r free;
  };
  taken = m.taken + (2 + n);
}

abbrev pub with_word_at : {S : Type 0} → Machine S → ℕ → ℕ → ℕ → Machine S
with_word_at m r i v = record m { now = record m.now { words = set_at m.now.words r (set_at (m.now.words r) i v) } }

abbrev pub with_monitor_at : {S : Type 0} → Machine S → ℕ → Monitor → Machine S
with_monitor_at m r monitor = record m { now = record m.now { monitors = set_at m.now.monitors r monitor } }

abbrev pub with_started_at : {S : Type 0} → Machine S → ℕ → ℕ → Machine S
with_started_at m r n = record m { now = record m.now { starts = set_at m.now.starts r n } }

abbrev pub with_waiting_at : {S : Type 0} → Machine S → ℕ → Waiting → Machine S
with_waiting_at m t waiting = record m { now = record m.now { waiting = set_at m.now.waiting t waiting } }

abbrev pub with_class_at : {S : Type 0} → Machine S → ℕ → ClassState → Machine S
with_class_at m c state = record m { now = record m.now { classes = set_at m.now.classes c state } }

abbrev pub with_line : {S : Type 0} → Machine S → Line → Machine S
with_line m line = record m { now = record m.now { lines = m.now.lines ++ line ∷ [] } }

-- the thread wants the operation
pub record Wants {S : Type 0} (code : Code S) (m : Machine S) (t : ℕ) (op : Op) : Type 0 where
  pub place : S
  pub begun : m.now.threads t ≡ live place
  pub wanted : code.next place ≡ Want op

-- it wants one that the reply fits
pub record Awaits {S : Type 0} (code : Code S) (m : Machine S) (t : ℕ) (reply : Reply) : Type 0 where
  pub place : S
  pub begun : m.now.threads t ≡ live place
  pub fits : FitsNext (code.next place) reply

-- the thread makes n silent steps, and nothing else happens
pub record RunsTo {S : Type 0} (code : Code S) (m : Machine S) (t n : ℕ) (new : Machine S) : Type 0 where
  pub from : S
  pub behind : S
  pub begun : m.now.threads t ≡ live from
  pub quiet : quiet_steps code n from ≡ Some behind
  pub leads : new ≡ with_thread_at m t (live behind) (m.silents t + n)

abbrev pub RunsSilently : {S : Type 0} → Code S → Machine S → ℕ → ℕ → Machine S → Type 0
RunsSilently code m t zero new = new ≡ m
RunsSilently code m t (suc n) new = RunsTo code m t (suc n) new

-- the thread makes a silent step
pub record IsSilentTo {S : Type 0} (code : Code S) (m : Machine S) (t : ℕ) (new : Machine S) : Type 0 where
  pub from : S
  pub behind : S
  pub begun : m.now.threads t ≡ live from
  pub quiet : quiet_step code from ≡ Some behind
  pub leads : new ≡ with_thread_at m t (live behind) (suc (m.silents t))

-- the silent step that comes next would make a 1,025th frame
pub record IsOutOfFrames {S : Type 0} (code : Code S) (m : Machine S) (t : ℕ) : Type 0 where
  pub place : S
  pub begun : m.now.threads t ≡ live place
  pub silent : code.next place ≡ Silent
  pub many : 1024 < code.frames (code.silent place)

-- the thread has begun and hasn't ended
abbrev pub IsLive : {S : Type 0} → OrdinaryState S → ℕ → Type 0
IsLive {S} s t = (l : S) × (s.threads t ≡ live l)

-- the thread has begun; it may have ended
abbrev pub HasBegun : {S : Type 0} → Thread S → Type 0
HasBegun unused = ⊥
HasBegun (live l) = Unit {0}
HasBegun (ended x) = Unit {0}

-- the thread that was notified, if one was
abbrev pub woken_of : Reply → ℕ
woken_of (Woken n) = n
woken_of _ = 0
