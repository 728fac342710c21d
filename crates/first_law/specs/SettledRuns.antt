-- What the events that are left have made of each monitor, along a run.
use Rattle.std.specs.Prelude.{◌≡◌, ◌≤◌, ℕ, suc, Bool, true, Option, None, Some, List, [], length, slice_get, nat_lt, if◌then◌else◌}
use Rattle.op_core.specs.declared.Next.{Next}
use Rattle.op_core.specs.declared.Next.TheVariants.{Want}
use Rattle.op_core.specs.ThreadCode.{Code}
use Rattle.op_core.specs.OrdinaryState.{Monitor, free, waits}
use Rattle.op_core.specs.OrdinaryStep.{monitors_after}
use Rattle.thread_automaton.specs.declared.Bounds.{Bounds}
use Rattle.thread_automaton.specs.declared.Held.{Held}
use Rattle.thread_automaton.specs.ThreadState.{ThreadState}
use Rattle.thread_automaton.specs.Told.{Told, advanced, told}
use Rattle.core_runs.specs.Cores.{Core}
use Rattle.core_runs.specs.Acts.{Act, quiet, did, beside}
use Rattle.core_runs.specs.Revoked.{IsDoomed}
use Rattle.section_laws.specs.Settled.{to_undo}
use Rattle.section_laws.specs.SettledMonitors.{depth_back, SettledMonitors}
use Rattle.first_law.specs.RunMonitors.{IsMonitorRun}

-- `doomed` is the test of the acts that opened levels which are revoked at any place of the run
abbrev pub IsDoomedTest : {S : Type 0} → (ℕ → Core S) → List Act → (ℕ → Bool) → Type 0
IsDoomedTest c acts doomed = (p : ℕ) → (doomed p ≡ true → IsDoomed c acts p) × (IsDoomed c acts p → doomed p ≡ true)

-- What a turn of thread t makes of the monitors as far as others see it: an operation that was answered does with them
-- what it does in the ordinary machine. The thread had given up a monitor that it had entered this number of times.
abbrev pub monitors_by : ℕ → Told → Next → ℕ → (ℕ → Monitor) → ℕ → Monitor
monitors_by t (advanced (Some reply)) (Want op) depth monitors =
    monitors_after t op reply (record { words = λ r i. 0; monitors = monitors; waiting = λ u. waits 0 depth })
monitors_by t told next depth monitors = monitors

-- What an act makes of the settled monitors: an event that is left does that, and one of a thread with a level open that is
-- to be undone leaves them.
abbrev pub SettlesBy : {S : Type 0} → Code S → Bounds → (ℕ → Bool) → Core S → Act → (ℕ → Monitor) → (ℕ → Monitor) → Type 0
SettlesBy {S} code b doomed c (did t step answer) old new = (th : ThreadState S) → c.threads t ≡ Some th
    → (r : ℕ) → new r ≡ (if nat_lt 0 (to_undo doomed (c.levels t)) then old r else monitors_by t (told code b th step answer) (code.next th.local) th.depth old r)
SettlesBy code b doomed c (quiet t) old new = (r : ℕ) → new r ≡ old r
SettlesBy code b doomed c (beside t step answer) old new = (r : ℕ) → new r ≡ old r

-- `settled k` are the monitors as the events that are left of the first k acts have made them; at first all are free.
pub record AreSettled {S : Type 0} (code : Code S) (b : Bounds) (doomed : ℕ → Bool) (c : ℕ → Core S) (acts : List Act) (settled : ℕ → ℕ → Monitor) : Type 0 where
  pub begins : (r : ℕ) → settled 0 r ≡ free
  pub goes_on : (k : ℕ) (act : Act) → slice_get acts k ≡ Some act → SettlesBy code b doomed (c k) act (settled k) (settled (suc k))

-- the monitors that a thread holds
abbrev pub held_in : {S : Type 0} → Option (ThreadState S) → List Held
held_in None = []
held_in (Some th) = th.held

-- and how often it holds the monitor of r once it has undone what it is to undo
abbrev pub back_in : {S : Type 0} → (ℕ → Bool) → List ℕ → Option (ThreadState S) → ℕ → ℕ
back_in doomed levels None r = depth_back (to_undo doomed levels) [] [] r
back_in doomed levels (Some th) r = depth_back (to_undo doomed levels) th.marks th.held r

-- so the monitors are settled at each place
abbrev pub MonitorsSettle : {S : Type 0} → Code S → Type 0
MonitorsSettle {S} code = (b : Bounds) (first : S) (classes : ℕ) (c : ℕ → Core S) (acts : List Act) → IsMonitorRun code b first classes c acts
    → (doomed : ℕ → Bool) → IsDoomedTest c acts doomed → (settled : ℕ → ℕ → Monitor) → AreSettled code b doomed c acts settled
    → (k : ℕ) → k ≤ length acts → SettledMonitors (settled k) (λ t. held_in ((c k).threads t)) (λ t r. back_in doomed ((c k).levels t) ((c k).threads t) r)
