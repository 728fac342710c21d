-- What gives turns here: the ordinary machine. A turn of a thread is one call of `advance`.
use Rattle.std.specs.Prelude.{◌≡◌, ℕ, ◌+◌, ◌-◌, ◌<◌, ◌≤◌, ◌⊎◌, Bool, true, false, Option, None, Some, List, ◌++◌, slice_get, slice_index}
use Rattle.std.specs.Option.{option_map}
use Rattle.op_core.specs.declared.Event.{Event}
use Rattle.op_core.specs.declared.Limits.{Limits}
use Rattle.op_core.specs.declared.Limit.{Limit}
use Rattle.op_core.specs.declared.Limit.TheVariants.{Turns, Trace}
use Rattle.op_core.specs.ThreadCode.{Code}
use Rattle.op_core.specs.OrdinaryState.{set_at, Thread, unused, live, ended}
use Rattle.schedules.specs.declared.order.TurnEnd.{TurnEnd}
use Rattle.schedules.specs.declared.order.TurnEnd.TheVariants.{Other, Blocked, Spent}
use Rattle.schedules.specs.Run.{TurnSystem}
use Rattle.ordinary_machine.specs.declared.advance.Advance.{Advance}
use Rattle.ordinary_machine.specs.declared.advance.Advance.TheVariants.{Silent, Step, Waits, Halts, Ended}
use Rattle.ordinary_machine.specs.declared.advance.Advance.TheVariants as advance
use Rattle.ordinary_machine.specs.Machine.{Machine, machine_of, RunsSilently}
use Rattle.ordinary_machine.specs.Advance.{Advances, MayAdvance}
use Rattle.ordinary_machine.specs.Laws.{event_of}
use Rattle.ordinary_runs.specs.declared.counts.TurnCounts.{TurnCounts}
use Rattle.ordinary_runs.specs.declared.turns.CountedMachine.{CountedMachine}
use Rattle.ordinary_runs.specs.declared.turns.TheConstants.{MOST_EVENTS}

-- how far a run has come
pub record Progress (S : Type 0) : Type 0 where
  pub machine : Machine S
  -- by thread number: how many of its turns counted
  pub counted : ℕ → ℕ
  -- the steps so far, where they are kept
  pub events : Option (List Event)

-- the thread has begun and hasn't ended
abbrev pub is_live : {S : Type 0} → Thread S → Bool
is_live unused = false
is_live (live l) = true
is_live (ended x) = false

-- What a turn comes to for a schedule, where `advance` answered this. The steps of this machine have no kinds.
abbrev pub end_of : Advance → TurnEnd
end_of Silent = Other
end_of (Step e) = Other
end_of Waits = Blocked
end_of Halts = Blocked
end_of Ended = Blocked
end_of (advance.Spent limit) = Spent limit

-- the counts after a turn of thread t: the turn counts where the thread made a step, silent or not
abbrev pub counted_after : ℕ → Advance → (ℕ → ℕ) → ℕ → ℕ
counted_after t Silent counted = set_at counted t (counted t + 1)
counted_after t (Step e) counted = set_at counted t (counted t + 1)
counted_after t Waits counted = counted
counted_after t Halts counted = counted
counted_after t Ended counted = counted
counted_after t (advance.Spent limit) counted = counted

-- the steps after a turn with this answer
abbrev pub events_after : Advance → Option (List Event) → Option (List Event)
events_after answer events = option_map (λ es. es ++ event_of answer) events

-- thread t has made its number of counted turns, so a turn is spent before all else
pub record IsOutOfTurns {S : Type 0} (limits : Limits) (r : Progress S) (t : ℕ) (end : TurnEnd) (new : Progress S) : Type 0 where
  pub many : limits.turns ≤ r.counted t
  pub spent : end ≡ Spent Turns
  pub same : new ≡ r

-- thread t has turns left, and `advance` is called for it
pub record MakesTurn {S : Type 0} (code : Code S) (limits : Limits) (r : Progress S) (t : ℕ) (end : TurnEnd) (new : Progress S) : Type 0 where
  pub left : r.counted t < limits.turns
  pub answer : Advance
  pub advances : Advances code r.machine t limits answer new.machine
  pub comes : end ≡ end_of answer
  pub counts : new.counted ≡ counted_after t answer r.counted
  pub kept : new.events ≡ events_after answer r.events

-- The limit Trace, with the thread that met it: that of the last event for which a journal has room. Where no steps are
-- kept it is never met.
abbrev pub traced : Option (List Event) → Option (ℕ × Limit)
traced None = None
traced (Some events) = option_map (λ e. (e.thread, Trace)) (slice_get events (MOST_EVENTS - 1))

-- The turns of the machine's threads under these limits. Which threads are enabled doesn't depend on the limits: one that
-- will meet a limit is. A turn that is made meets the limit Trace alone.
abbrev pub machine_turns : {S : Type 0} → Code S → Limits → TurnSystem (Progress S)
machine_turns code limits = record {
  live = λ r t. is_live (r.machine.now.threads t);
  enabled = λ r t. MayAdvance code r.machine t;
  ended = λ r t x. r.machine.now.threads t ≡ ended x;
  gives = λ r t end new. IsOutOfTurns limits r t end new ⊎ MakesTurn code limits r t end new;
  stopped = λ r. traced r.events;
}

-- the same turns, of which no number of kept steps is too many
abbrev pub untraced_turns : {S : Type 0} → Code S → Limits → TurnSystem (Progress S)
untraced_turns code limits = record (machine_turns code limits) { stopped = λ r. None }

-- a turn is given to thread t where it is enabled, and where it isn't all stays as it is
abbrev pub GivesIfEnabled : {S : Type 0} → Code S → Limits → Progress S → ℕ → Option TurnEnd → Progress S → Type 0
GivesIfEnabled code limits r t None new = (MayAdvance code r.machine t → ⊥) × (new ≡ r)
GivesIfEnabled code limits r t (Some end) new = MayAdvance code r.machine t × (machine_turns code limits).gives r t end new

-- thread t makes n silent steps, each a turn that it has left
pub record IsSilentFor {S : Type 0} (code : Code S) (limits : Limits) (r : Progress S) (t n : ℕ) (new : Progress S) : Type 0 where
  pub left : n ≤ limits.turns - r.counted t
  pub runs : RunsSilently code r.machine t n new.machine
  pub counts : new.counted ≡ set_at r.counted t (r.counted t + n)
  pub kept : new.events ≡ r.events

-- the count that the table has of a thread
abbrev pub count_in : TurnCounts → ℕ → ℕ
count_in counts t = slice_index counts.counts t

abbrev pub progress_of : {C S : Type 0} → (C → S) → CountedMachine C → Progress S
progress_of state m = record { machine = machine_of state m.machine; counted = count_in m.counts; events = m.events }
