-- Grounded runs that begin with free monitors and with no thread that waits: nothing else is asked of monitors and waits.
use Rattle.std.specs.Prelude.{◌≡◌, ◌<◌, ◌≤◌, ◌+◌, ◌^◌, ℕ, Bool, None, List, length}
use Rattle.op_core.specs.ThreadCode.{Code}
use Rattle.op_core.specs.InPlaceList.{Entry, IsInPlaceList}
use Rattle.heap_words.specs.declared.areas.Area.{Area}
use Rattle.thread_automaton.specs.declared.Bounds.{Bounds}
use Rattle.core_runs.specs.Cores.{Core}
use Rattle.core_runs.specs.Acts.{Act}
use Rattle.core_runs.specs.Entries.{ShowFrom}
use Rattle.core_runs.specs.Reading.{ordinary}
use Rattle.section_laws.specs.Layout.{IsLaidRun}
use Rattle.first_law.specs.RunMonitors.{IsObject, IsMonitorRun}
use Rattle.first_law.specs.Monitors.{MonitorsFit}
use Rattle.first_law.specs.Grounded.{IsGroundedRun}
use Rattle.first_law.specs.Waits.{WaitsAreKnown}

pub record IsFreeRun {S : Type 0} (code : Code S) (b : Bounds) (is_thread : ℕ → Bool) (first : S) (classes : ℕ) (c : ℕ → Core S) (acts : List Act) : Type 0 where
  pub grounded : IsGroundedRun code b is_thread first classes c acts
  pub numbers : b.limits.sections < 2 ^ 32
  -- it begins with all monitors free,
  pub free : (r : ℕ) → IsObject (c 0) r → (c 0).words (Area.Object (r + 1)) ≡ 0
  -- with no thread that waits, and with none of the number 0
  pub awake : (t : ℕ) → (c 0).words (Area.Wait t) ≡ 0
  pub from_one : (c 0).threads 0 ≡ None

-- what its threads want fits the objects
abbrev pub FreeRunsFitObjects : {S : Type 0} → Code S → Type 0
FreeRunsFitObjects {S} code = (b : Bounds) (is_thread : ℕ → Bool) (first : S) (classes : ℕ) (c : ℕ → Core S) (acts : List Act) → IsFreeRun code b is_thread first classes c acts
    → IsLaidRun code b is_thread c acts

-- the monitors of objects lie apart from all other words of objects
abbrev pub FreeRunsHoldMonitors : {S : Type 0} → Code S → Type 0
FreeRunsHoldMonitors {S} code = (b : Bounds) (is_thread : ℕ → Bool) (first : S) (classes : ℕ) (c : ℕ → Core S) (acts : List Act) → IsFreeRun code b is_thread first classes c acts
    → IsMonitorRun code b first classes c acts

-- the words of waits say who waits, at each place
abbrev pub WaitsStayKnown : {S : Type 0} → Code S → Type 0
WaitsStayKnown {S} code = (b : Bounds) (is_thread : ℕ → Bool) (first : S) (classes : ℕ) (c : ℕ → Core S) (acts : List Act) → IsFreeRun code b is_thread first classes c acts
    → (k : ℕ) → k ≤ length acts → WaitsAreKnown code (c k)

-- monitors and waits are as they have to be
abbrev pub FreeRunsFit : {S : Type 0} → Code S → Type 0
FreeRunsFit {S} code = (b : Bounds) (is_thread : ℕ → Bool) (first : S) (classes : ℕ) (c : ℕ → Core S) (acts : List Act) → IsFreeRun code b is_thread first classes c acts
    → (k : ℕ) → k ≤ length acts → MonitorsFit code (c k)

-- so the run is an in-place list
abbrev pub FreeRunsAreInPlace : {S : Type 0} → Code S → Type 0
FreeRunsAreInPlace {S} code = (b : Bounds) (is_thread : ℕ → Bool) (first : S) (classes : ℕ) (c : ℕ → Core S) (acts : List Act) → IsFreeRun code b is_thread first classes c acts
    → (es : List Entry) × (length es ≡ length acts) × ShowFrom code b c 0 acts es × IsInPlaceList code (λ k. ordinary code is_thread (c k)) es
