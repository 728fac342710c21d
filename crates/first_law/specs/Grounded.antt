-- Runs of a code that names nothing out of nothing.
use Rattle.std.specs.Prelude.{◌≡◌, ◌<◌, ◌≤◌, ◌+◌, ◌^◌, ℕ, Bool, true, Some, List, [], length}
use Rattle.op_core.specs.ThreadCode.{Code}
use Rattle.op_core.specs.OrdinaryState.{Object}
use Rattle.op_core.specs.InPlaceList.{Entry, IsInPlaceList, IsGrounded}
use Rattle.op_core.specs.Orderly.{IsOrderly, StartWordsAreKept}
use Rattle.heap_words.specs.declared.areas.Area.{Area}
use Rattle.heap_words.specs.Words.{class_state}
use Rattle.thread_automaton.specs.declared.Bounds.{Bounds}
use Rattle.thread_automaton.specs.ThreadState.{ThreadState}
use Rattle.core_runs.specs.Cores.{Core}
use Rattle.core_runs.specs.Acts.{Act}
use Rattle.core_runs.specs.Entries.{ShowFrom}
use Rattle.core_runs.specs.Reading.{ordinary}
use Rattle.section_laws.specs.Runs.{IsRun}
use Rattle.section_laws.specs.Ends.{HasNoEnds}
use Rattle.section_laws.specs.Layout.{free_place, ObjectsLieApart}
use Rattle.section_laws.specs.Bits.{BeginsInBits}
use Rattle.section_laws.specs.Starts.{BeginsWithStarts}
use Rattle.first_law.specs.Monitors.{MonitorsFit}
use Rattle.first_law.specs.InPlace.{IsSeenRun}

-- A run that begins as it has to, of a code that goes in order, names nothing out of nothing, and leaves start words alone.
pub record IsGroundedRun {S : Type 0} (code : Code S) (b : Bounds) (is_thread : ℕ → Bool) (first : S) (classes : ℕ) (c : ℕ → Core S) (acts : List Act) : Type 0 where
  pub run : IsRun code b c acts
  pub orderly : IsOrderly code first classes
  pub grounded : IsGrounded code (ordinary code is_thread (c 0))
  pub kept : StartWordsAreKept code is_thread (ordinary code is_thread (c 0))
  -- it begins with threads at the first local state, with no level open, none of which has ended
  pub local : (t : ℕ) (th : ThreadState S) → (c 0).threads t ≡ Some th → th.local ≡ first
  pub closed : (t : ℕ) → (c 0).levels t ≡ []
  pub starts : BeginsWithStarts is_thread (c 0)
  pub ends : HasNoEnds (c 0).words
  -- and with objects that are laid out, within a heap of 2^32 places, and words in range
  pub in_bits : BeginsInBits (c 0)
  pub begins : ObjectsLieApart (free_place b (c 0).words) (c 0).words (c 0).objects
  pub heap : (0 < b.first) × (b.first + b.limits.heap ≤ 2 ^ 32)
  pub class_words : (d : ℕ) → class_state ((c 0).words (Area.Class d)) ≤ 3
  -- each thread object has a start word
  pub threads : (k r : ℕ) (o : Object) → k ≤ length acts → (c k).objects r ≡ Some o → is_thread o.class ≡ true → 1 < o.words

-- its monitors and waits are as they have to be
abbrev pub MonitorsFitAlong : {S : Type 0} → Code S → (ℕ → Core S) → List Act → Type 0
MonitorsFitAlong code c acts = (k : ℕ) → k < length acts → MonitorsFit code (c k)

-- then what its threads want fits the objects, and its words are in range
abbrev pub GroundedRunsAreSeen : {S : Type 0} → Code S → Type 0
GroundedRunsAreSeen {S} code = (b : Bounds) (is_thread : ℕ → Bool) (first : S) (classes : ℕ) (c : ℕ → Core S) (acts : List Act) → IsGroundedRun code b is_thread first classes c acts
    → MonitorsFitAlong code c acts → IsSeenRun code b is_thread first classes c acts

-- so it is an in-place list
abbrev pub GroundedRunsAreInPlace : {S : Type 0} → Code S → Type 0
GroundedRunsAreInPlace {S} code = (b : Bounds) (is_thread : ℕ → Bool) (first : S) (classes : ℕ) (c : ℕ → Core S) (acts : List Act) → IsGroundedRun code b is_thread first classes c acts
    → MonitorsFitAlong code c acts → (es : List Entry) × (length es ≡ length acts) × ShowFrom code b c 0 acts es × IsInPlaceList code (λ k. ordinary code is_thread (c k)) es
