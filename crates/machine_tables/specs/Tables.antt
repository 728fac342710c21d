-- What the machine's tables mean, as functions of references, class numbers and thread numbers.
use Rattle.std.specs.Prelude.{◌≡◌, ◌+◌, ◌<◌, Bool, true, false, ◌≤◌, IsNone, ℕ, ◌&&◌, Option, None, Some, List, nat_eq, nat_lt, length, slice_get, unwrap_or, if◌then◌else◌}
use Rattle.std.specs.Option.{option_map}
use Rattle.std.specs.HashMap.{get}
use Rattle.op_core.specs.declared.Reply.{Reply}
use Rattle.op_core.specs.declared.Next.TheVariants.{Silent}
use Rattle.op_core.specs.ThreadCode.{Code, leaves_any, quiet_steps}
use Rattle.op_core.specs.Replies.{FitsNext}
use Rattle.op_core.specs.OrdinaryState.{Object, Monitor, free, held, Waiting, awake, waits, notified, ClassState, unready, claimed, ready, bad, Thread, unused, live, ended}
use Rattle.machine_tables.specs.declared.objects.MonitorState.{MonitorState}
use Rattle.machine_tables.specs.declared.objects.MonitorState.TheVariants.{Free, Held}
use Rattle.machine_tables.specs.declared.objects.HeapObject.{HeapObject}
use Rattle.machine_tables.specs.declared.objects.Objects.{Objects}
use Rattle.machine_tables.specs.declared.classes.ClassProgress.{ClassProgress}
use Rattle.machine_tables.specs.declared.classes.ClassProgress.TheVariants.{Unready, Claimed, Ready, Bad}
use Rattle.machine_tables.specs.declared.classes.Classes.{Classes}
use Rattle.machine_tables.specs.declared.threads.WaitState.{WaitState}
use Rattle.machine_tables.specs.declared.threads.WaitState.TheVariants.{Awake, Waits, Notified}
use Rattle.machine_tables.specs.declared.threads.Standing.{Standing}
use Rattle.machine_tables.specs.declared.threads.Standing.TheVariants.{Live, Ended}
use Rattle.machine_tables.specs.declared.threads.Seat.{Seat}
use Rattle.machine_tables.specs.declared.threads.Threads.{Threads}

-- the object that a reference names
abbrev pub object_at : Objects → ℕ → Option HeapObject
object_at objects r = get nat_eq objects.table r

abbrev pub monitor_of : MonitorState → Monitor
monitor_of Free = free
monitor_of (Held owner count) = held owner count

abbrev pub header_of : HeapObject → Object
header_of x = record { class = x.class; length = x.length; words = length x.words }

abbrev pub monitor_in : Option HeapObject → Monitor
monitor_in None = free
monitor_in (Some x) = monitor_of x.monitor

abbrev pub started_in : Option HeapObject → ℕ
started_in None = 0
started_in (Some x) = x.started

abbrev pub word_in : Option HeapObject → ℕ → ℕ
word_in None i = 0
word_in (Some x) i = unwrap_or (slice_get x.words i) 0

abbrev pub objects_in : (ℕ → Option HeapObject) → ℕ → Option Object
objects_in f r = option_map header_of (f r)

abbrev pub words_in : (ℕ → Option HeapObject) → ℕ → ℕ → ℕ
words_in f r = word_in (f r)

abbrev pub monitors_in : (ℕ → Option HeapObject) → ℕ → Monitor
monitors_in f r = monitor_in (f r)

abbrev pub starts_in : (ℕ → Option HeapObject) → ℕ → ℕ
starts_in f r = started_in (f r)

abbrev pub class_state_of : ClassProgress → ClassState
class_state_of Unready = unready
class_state_of (Claimed owner) = claimed owner
class_state_of Ready = ready
class_state_of Bad = bad

abbrev pub class_state_in : Option ClassProgress → ClassState
class_state_in None = unready
class_state_in (Some x) = class_state_of x

abbrev pub classes_in : Classes → ℕ → ClassState
classes_in classes c = class_state_in (get nat_eq classes.table c)

abbrev pub waiting_of : WaitState → Waiting
waiting_of Awake = awake
waiting_of (Waits r count) = waits r count
waiting_of (Notified r count) = notified r count

-- the thread of a number, which is from 1 to 255
abbrev pub seat_in : {C : Type 0} → List (Option (Seat C)) → ℕ → Option (Seat C)
seat_in seats t = if nat_lt 0 t && nat_lt t 256 then unwrap_or (slice_get seats t) None else None

abbrev pub seat_at : {C : Type 0} → Threads C → ℕ → Option (Seat C)
seat_at threads t = seat_in threads.seats.items t

-- a seat whose thread waits for something else, or is elsewhere
abbrev pub waiting_at : {C : Type 0} → WaitState → Option (Seat C) → Option (Seat C)
waiting_at waiting None = None
waiting_at waiting (Some x) = Some (record x { waiting = waiting })

abbrev pub standing_at : {C : Type 0} → Standing C → ℕ → Option (Seat C) → Option (Seat C)
standing_at standing silent None = None
standing_at standing silent (Some x) = Some (record x { standing = standing; silent = silent })

abbrev pub placed_at : {C : Type 0} → Standing C → Option (Seat C) → Option (Seat C)
placed_at standing None = None
placed_at standing (Some x) = Some (record x { standing = standing })

-- a thread makes n silent steps from where it is; one that has ended makes none
abbrev pub StandingRuns : {C S : Type 0} → Code S → (C → S) → ℕ → Standing C → Standing C → Type 0
StandingRuns code state n (Live from) (Live behind) = quiet_steps code n (state from) ≡ Some (state behind)
StandingRuns code state n (Ended x) (Ended y) = (n ≡ 0) × (y ≡ x)
StandingRuns _ _ _ _ _ = ⊥

pub record RunsOn {C S : Type 0} (code : Code S) (state : C → S) (n : ℕ) (x y : Seat C) : Type 0 where
  pub standing : StandingRuns code state n x.standing y.standing
  pub silent : y.silent ≡ x.silent + n
  pub waiting : y.waiting ≡ x.waiting

abbrev pub SeatRuns : {C S : Type 0} → Code S → (C → S) → ℕ → Option (Seat C) → Option (Seat C) → Type 0
SeatRuns code state n (Some x) (Some y) = RunsOn code state n x y
SeatRuns code state n None None = n ≡ 0
SeatRuns _ _ _ _ _ = ⊥

-- the silent step that comes next would make a 1,025th frame
abbrev pub StandingOverflows : {C S : Type 0} → Code S → (C → S) → Standing C → Type 0
StandingOverflows code state (Live from) = (code.next (state from) ≡ Silent) × (1024 < code.frames (code.silent (state from)))
StandingOverflows code state (Ended x) = ⊥

abbrev pub SeatOverflows : {C S : Type 0} → Code S → (C → S) → Option (Seat C) → Type 0
SeatOverflows code state None = ⊥
SeatOverflows code state (Some x) = StandingOverflows code state x.standing

-- where a silent step comes next, it ends a frame that was on top at a save
abbrev pub StandingLeaves : {C S : Type 0} → Code S → (C → S) → (C → List S) → Standing C → Type 0
StandingLeaves code state saved (Live from) = code.next (state from) ≡ Silent → leaves_any code (saved from) (state from) ≡ true
StandingLeaves code state saved (Ended x) = Unit {0}

abbrev pub SeatLeaves : {C S : Type 0} → Code S → (C → S) → (C → List S) → Option (Seat C) → Type 0
SeatLeaves code state saved None = Unit {0}
SeatLeaves code state saved (Some x) = StandingLeaves code state saved x.standing

-- a thread wants an operation that the reply fits, and goes on with it
abbrev pub StandingAwaits : {C S : Type 0} → Code S → (C → S) → Standing C → Reply → Type 0
StandingAwaits code state (Live from) reply = FitsNext (code.next (state from)) reply
StandingAwaits code state (Ended x) reply = ⊥

abbrev pub AwaitsReply : {C S : Type 0} → Code S → (C → S) → Option (Seat C) → Reply → Type 0
AwaitsReply code state None reply = ⊥
AwaitsReply code state (Some x) reply = StandingAwaits code state x.standing reply

abbrev pub StandingReplies : {C S : Type 0} → Code S → (C → S) → Reply → Standing C → Standing C → Type 0
StandingReplies code state reply (Live from) (Live behind) = state behind ≡ code.reply (state from) reply
StandingReplies _ _ _ _ _ = ⊥

pub record GoesOn {C S : Type 0} (code : Code S) (state : C → S) (reply : Reply) (x y : Seat C) : Type 0 where
  pub standing : StandingReplies code state reply x.standing y.standing
  pub silent : y.silent ≡ 0
  pub waiting : y.waiting ≡ x.waiting

abbrev pub SeatReplies : {C S : Type 0} → Code S → (C → S) → Reply → Option (Seat C) → Option (Seat C) → Type 0
SeatReplies code state reply (Some x) (Some y) = GoesOn code state reply x y
SeatReplies _ _ _ _ _ = ⊥

abbrev pub is_end : {C : Type 0} → Standing C → Bool
is_end (Live code) = false
is_end (Ended x) = true

abbrev pub standing_of : {C S : Type 0} → (C → S) → Standing C → Thread S
standing_of state (Live code) = live (state code)
standing_of state (Ended x) = ended x

abbrev pub thread_in : {C S : Type 0} → (C → S) → Option (Seat C) → Thread S
thread_in state None = unused
thread_in state (Some seat) = standing_of state seat.standing

abbrev pub waiting_state_in : {C : Type 0} → Option (Seat C) → Waiting
waiting_state_in None = awake
waiting_state_in (Some seat) = waiting_of seat.waiting

abbrev pub silent_in : {C : Type 0} → Option (Seat C) → ℕ
silent_in None = 0
silent_in (Some seat) = seat.silent

abbrev pub threads_in : {C S : Type 0} → (C → S) → (ℕ → Option (Seat C)) → ℕ → Thread S
threads_in state f t = thread_in state (f t)

abbrev pub waiting_in : {C : Type 0} → (ℕ → Option (Seat C)) → ℕ → Waiting
waiting_in f t = waiting_state_in (f t)

abbrev pub silents_in : {C : Type 0} → (ℕ → Option (Seat C)) → ℕ → ℕ
silents_in f t = silent_in (f t)

abbrev pub has_ended_in : {C : Type 0} → Option (Seat C) → Bool
has_ended_in None = false
has_ended_in (Some seat) = is_end seat.standing

abbrev pub has_ended : {C : Type 0} → (ℕ → Option (Seat C)) → ℕ → Bool
has_ended f t = has_ended_in (f t)

-- a number that a new thread can have
abbrev pub IsFreeSeat : {C : Type 0} → (ℕ → Option (Seat C)) → ℕ → Type 0
IsFreeSeat f n = (2 ≤ n) × (n ≤ 255) × IsNone (f n)
