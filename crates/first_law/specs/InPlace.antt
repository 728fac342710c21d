-- The in-place list of a run: each act shows an entry, and the ordinary states go along with the entries.
use Rattle.std.specs.Prelude.{◌≡◌, ◌<◌, ◌≤◌, ◌+◌, ◌^◌, ℕ, Bool, true, Some, List, length}
use Rattle.op_core.specs.ThreadCode.{Code}
use Rattle.op_core.specs.OrdinaryState.{Object}
use Rattle.op_core.specs.InPlaceList.{Entry, IsInPlaceList}
use Rattle.heap_words.specs.declared.areas.Area.{Area}
use Rattle.heap_words.specs.Words.{class_state}
use Rattle.thread_automaton.specs.declared.Bounds.{Bounds}
use Rattle.core_runs.specs.Cores.{Core}
use Rattle.core_runs.specs.Acts.{Act}
use Rattle.core_runs.specs.Reading.{ordinary}
use Rattle.core_runs.specs.Entries.{ShowFrom}
use Rattle.section_laws.specs.Ends.{HasNoEnds}
use Rattle.section_laws.specs.Layout.{free_place, ObjectsLieApart, WantsFitObjects}
use Rattle.section_laws.specs.Starts.{BeginsWithStarts}
use Rattle.section_laws.specs.Levels.{IsLevelledRun}
use Rattle.first_law.specs.Monitors.{MonitorsFit}

-- A run that begins as it has to, whose threads want what fits the objects, and whose monitors are held as they have to be.
pub record IsSeenRun {S : Type 0} (code : Code S) (b : Bounds) (is_thread : ℕ → Bool) (first : S) (classes : ℕ) (c : ℕ → Core S) (acts : List Act) : Type 0 where
  pub levelled : IsLevelledRun code b first classes c acts
  -- it begins with objects that are laid out, within a heap of 2^32 places
  pub begins : ObjectsLieApart (free_place b (c 0).words) (c 0).words (c 0).objects
  pub heap : (0 < b.first) × (b.first + b.limits.heap ≤ 2 ^ 32)
  -- and with threads none of which has ended
  pub starts : BeginsWithStarts is_thread (c 0)
  pub ends : HasNoEnds (c 0).words
  -- the words of classes say how far they are
  pub class_words : (d : ℕ) → class_state ((c 0).words (Area.Class d)) ≤ 3
  pub wants : WantsFitObjects code is_thread c acts
  -- each thread object has a start word
  pub threads : (k r : ℕ) (o : Object) → k ≤ length acts → (c k).objects r ≡ Some o → is_thread o.class ≡ true → 1 < o.words
  pub monitors : (k : ℕ) → k < length acts → MonitorsFit code (c k)

-- Its acts show entries, and these are an in-place list of its ordinary states.
abbrev pub RunsAreInPlace : {S : Type 0} → Code S → Type 0
RunsAreInPlace {S} code = (b : Bounds) (is_thread : ℕ → Bool) (first : S) (classes : ℕ) (c : ℕ → Core S) (acts : List Act) → IsSeenRun code b is_thread first classes c acts
    → (es : List Entry) × (length es ≡ length acts) × ShowFrom code b c 0 acts es × IsInPlaceList code (λ k. ordinary code is_thread (c k)) es
