-- What is kept along a run on shared words, of local states, of words and of objects, where it is closed under the code's
-- steps. Any thread code.
use Rattle.std.specs.Prelude.{◌≡◌, ◌<◌, ◌≤◌, ◌+◌, ◌^◌, ℕ, Bool, false, true, None, Some, List, [], length}
use Rattle.op_core.specs.ThreadCode.{Code}
use Rattle.op_core.specs.OrdinaryState.{Object}
use Rattle.op_core.specs.InPlaceList.{IsGrounded}
use Rattle.op_core.specs.Orderly.{IsOrderly, StartWordsAreKept}
use Rattle.heap_words.specs.declared.areas.Area.{Area}
use Rattle.heap_words.specs.Words.{class_state}
use Rattle.thread_automaton.specs.declared.Bounds.{Bounds}
use Rattle.thread_automaton.specs.ThreadState.{ThreadState}
use Rattle.core_runs.specs.Cores.{Core}
use Rattle.core_runs.specs.Acts.{Act}
use Rattle.core_runs.specs.Reading.{ordinary}
use Rattle.section_laws.specs.Runs.{IsRun}
use Rattle.section_laws.specs.Ends.{HasNoEnds}
use Rattle.section_laws.specs.Layout.{ObjectsLieApart, free_place, object_end}
use Rattle.section_laws.specs.Bits.{BeginsInBits}
use Rattle.section_laws.specs.Starts.{BeginsWithStarts}
use Rattle.first_law.specs.RunMonitors.{IsObject}
use Rattle.first_law.specs.Free.{IsFreeRun}
use Rattle.thread_moves.specs.Thread.{CanBeAsked}
use Rattle.kept_states.specs.Kept.{Objects, Keeps, IsKeptState}

-- A run that begins as it has to.
pub record IsBegunRun {S : Type 0} (code : Code S) (b : Bounds) (is_thread : ℕ → Bool) (first : S) (c : ℕ → Core S) (acts : List Act) : Type 0 where
  pub run : IsRun code b c acts
  -- it begins with threads at the first local state, with no level open, none of which has ended
  pub local : (t : ℕ) (th : ThreadState S) → (c 0).threads t ≡ Some th → th.local ≡ first
  pub closed : (t : ℕ) → (c 0).levels t ≡ []
  pub starts : BeginsWithStarts is_thread (c 0)
  pub ends : HasNoEnds (c 0).words
  -- and with objects that are laid out, within 2^32 places, and words in range
  pub in_bits : BeginsInBits (c 0)
  pub begins : ObjectsLieApart (free_place b (c 0).words) (c 0).words (c 0).objects
  pub taken : free_place b (c 0).words ≤ 2 ^ 32
  pub heap : (0 < b.first) × (b.first + b.limits.heap ≤ 2 ^ 32)
  pub class_words : (d : ℕ) → class_state ((c 0).words (Area.Class d)) ≤ 3
  -- the numbers of sections have 32 bits
  pub numbers : b.limits.sections < 2 ^ 32
  -- all monitors are free, no thread waits, and none has the number 0
  pub free : (r : ℕ) → IsObject (c 0) r → (c 0).words (Area.Object (r + 1)) ≡ 0
  pub awake : (t : ℕ) → (c 0).words (Area.Wait t) ≡ 0
  pub from_one : (c 0).threads 0 ≡ None

-- Properties of local states (P), of words (W) and of objects (O) that the code's steps keep, where each thread object has a
-- start word, and no object has more than 2^32 words.
pub record KeepsFitting {S : Type 0} (code : Code S) (is_thread : ℕ → Bool) (P : Objects → S → Type 0) (W : Objects → ℕ → ℕ → ℕ → Type 0) (O : ℕ → Object → Type 0) : Type 0 where
  pub keeps : Keeps code P W O
  pub threads : (r : ℕ) (o : Object) → O r o → is_thread o.class ≡ true → 1 < o.words
  pub few : (r : ℕ) (o : Object) → O r o → o.words ≤ 2 ^ 32

-- what holds along such a run
pub record CoresAreKept {S : Type 0} (code : Code S) (b : Bounds) (is_thread : ℕ → Bool) (first : S) (classes : ℕ) (c : ℕ → Core S) (acts : List Act) (P : Objects → S → Type 0) (W : Objects → ℕ → ℕ → ℕ → Type 0) (O : ℕ → Object → Type 0) : Type 0 where
  -- each thread object has a start word, so it is a run as `grounded_monitors` has them
  pub run : IsFreeRun code b is_thread first classes c acts
  -- each place is kept, as threads see it
  pub kept : (k : ℕ) → k ≤ length acts → IsKeptState P W O (ordinary code is_thread (c k))
  -- objects end within 2^32 places
  pub low : (k r : ℕ) (o : Object) → k ≤ length acts → (c k).objects r ≡ Some o → object_end r o ≤ 2 ^ 32
  -- what a thread wants that hasn't ended can be asked for in a turn
  pub asked : (k t : ℕ) (th : ThreadState S) → k ≤ length acts → (c k).threads t ≡ Some th → th.over ≡ false → CanBeAsked code th.local (code.next th.local)

-- so it is along each run that begins with what is kept, of a code that goes in order, names nothing out of nothing, and leaves
-- start words alone
abbrev pub CoresKeep : {S : Type 0} → Code S → Type 1
CoresKeep {S} code = (P : Objects → S → Type 0) (W : Objects → ℕ → ℕ → ℕ → Type 0) (O : ℕ → Object → Type 0) (is_thread : ℕ → Bool) → KeepsFitting code is_thread P W O
    → (b : Bounds) (first : S) (classes : ℕ) (c : ℕ → Core S) (acts : List Act) → IsOrderly code first classes → IsGrounded code (ordinary code is_thread (c 0)) → StartWordsAreKept code is_thread (ordinary code is_thread (c 0))
    → IsBegunRun code b is_thread first c acts → IsKeptState P W O (ordinary code is_thread (c 0))
    → CoresAreKept code b is_thread first classes c acts P W O

-- objects end within 2^32 places along a run of a code that names nothing out of nothing
abbrev pub ObjectsEndInRange : {S : Type 0} → Code S → Type 0
ObjectsEndInRange {S} code = (b : Bounds) (is_thread : ℕ → Bool) (first : S) (classes : ℕ) (c : ℕ → Core S) (acts : List Act) → IsFreeRun code b is_thread first classes c acts → free_place b (c 0).words ≤ 2 ^ 32
    → (k r : ℕ) (o : Object) → k ≤ length acts → (c k).objects r ≡ Some o → object_end r o ≤ 2 ^ 32
