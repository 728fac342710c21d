-- How objects lie among the shared words, at each place of a run.
use Rattle.std.specs.Prelude.{◌≡◌, ◌≢◌, ◌<◌, ◌≤◌, ◌+◌, ◌^◌, ◌⊎◌, ℕ, suc, Bool, true, Option, None, Some, List, Contains, length, slice_get}
use Rattle.op_core.specs.declared.Op.{Op}
use Rattle.op_core.specs.declared.Op.TheVariants.{New}
use Rattle.op_core.specs.declared.Next.TheVariants.{Want}
use Rattle.op_core.specs.ThreadCode.{Code}
use Rattle.op_core.specs.OrdinaryState.{Object, IsThere}
use Rattle.op_core.specs.InPlaceList.{IsAllThere, IsInRange}
use Rattle.op_core.specs.Orderly.{KeepsStartWord}
use Rattle.heap_words.specs.declared.areas.Area.{Area}
use Rattle.heap_words.specs.declared.areas.Area.TheVariants.{Control}
use Rattle.heap_words.specs.Words.{pack_header}
use Rattle.write_log.specs.declared.Noted.{Noted}
use Rattle.step_port.specs.declared.answer.StepAnswer.{StepAnswer}
use Rattle.step_port.specs.declared.step.Step.TheVariants.{SetHeader}
use Rattle.step_port.specs.Words.{Words}
use Rattle.thread_automaton.specs.declared.Bounds.{Bounds}
use Rattle.thread_automaton.specs.declared.Held.{Held}
use Rattle.thread_automaton.specs.ThreadState.{ThreadState, Mark}
use Rattle.thread_automaton.specs.NextMove.{word_place}
use Rattle.core_runs.specs.Cores.{Core}
use Rattle.core_runs.specs.Acts.{Act, did}
use Rattle.section_laws.specs.Runs.{IsRun}

abbrev pub Objects : Type 0
Objects = ℕ → Option Object

-- the first place after an object at r: its header, its monitor and its words lie one after another
abbrev pub object_end : ℕ → Object → ℕ
object_end r o = r + 2 + o.words

-- the first place that wasn't taken for an object yet
abbrev pub free_place : Bounds → Words → ℕ
free_place b w = b.first + w (Control 2)

-- The objects lie apart, each with a header that says its class and its length, below a place from which on all words
-- are 0.
pub record ObjectsLieApart (free : ℕ) (w : Words) (objects : Objects) : Type 0 where
  pub apart : (r q : ℕ) (o p : Object) → objects r ≡ Some o → objects q ≡ Some p → r ≢ q → (object_end r o ≤ q) ⊎ (object_end q p ≤ r)
  pub low : (r : ℕ) (o : Object) → objects r ≡ Some o → object_end r o ≤ free
  pub in_range : (r : ℕ) (o : Object) → objects r ≡ Some o → (o.class < 2 ^ 32) × (o.length < 2 ^ 32)
  pub headers : (r : ℕ) (o : Object) → objects r ≡ Some o → w (Area.Object r) ≡ pack_header o.class o.length
  pub unused : (at : ℕ) → free ≤ at → w (Area.Object at) ≡ 0

-- the operation is in range, names objects and words that are there, and leaves start words alone
abbrev pub FitsObjects : (ℕ → Bool) → Objects → Op → Type 0
FitsObjects is_thread objects op = IsInRange op × IsAllThere objects op × KeepsStartWord is_thread objects op

-- so does whatever a thread wants as an act is made
abbrev pub WantsFitObjects : {S : Type 0} → Code S → (ℕ → Bool) → (ℕ → Core S) → List Act → Type 0
WantsFitObjects {S} code is_thread c acts = (k t : ℕ) (th : ThreadState S) (op : Op) → k < length acts
    → (c k).threads t ≡ Some th → code.next th.local ≡ Want op → FitsObjects is_thread (c k).objects op

-- A run that begins with objects that are laid out, and whose threads want what fits them.
pub record IsLaidRun {S : Type 0} (code : Code S) (b : Bounds) (is_thread : ℕ → Bool) (c : ℕ → Core S) (acts : List Act) : Type 0 where
  pub run : IsRun code b c acts
  pub begins : ObjectsLieApart (free_place b (c 0).words) (c 0).words (c 0).objects
  pub wants : WantsFitObjects code is_thread c acts

-- the objects are laid out at each place of it
abbrev pub RunsKeepLayout : {S : Type 0} → Code S → Type 0
RunsKeepLayout {S} code = (b : Bounds) (is_thread : ℕ → Bool) (c : ℕ → Core S) (acts : List Act) → IsLaidRun code b is_thread c acts
    → (k : ℕ) → k ≤ length acts → ObjectsLieApart (free_place b (c k).words) (c k).words (c k).objects

-- and each object stays
abbrev pub ObjectsStay : {S : Type 0} → Code S → Type 0
ObjectsStay {S} code = (b : Bounds) (is_thread : ℕ → Bool) (c : ℕ → Core S) (acts : List Act) → IsLaidRun code b is_thread c acts
    → (j k r : ℕ) (o : Object) → j ≤ k → k ≤ length acts → (c j).objects r ≡ Some o → (c k).objects r ≡ Some o

-- ---- new objects

-- Act number k makes the object at r: none was there, it lies within the heap, and its words are 0.
pub record IsNewObject {S : Type 0} (b : Bounds) (c : ℕ → Core S) (k r : ℕ) (o : Object) : Type 0 where
  pub none : (c k).objects r ≡ None
  pub there : (c (suc k)).objects r ≡ Some o
  pub first : b.first ≤ r
  pub last : object_end r o ≤ b.first + b.limits.heap
  pub empty : (at : ℕ) → r < at → at < object_end r o → (c (suc k)).words (Area.Object at) ≡ 0

-- so is each object whose header a thread sets
abbrev pub NewObjectsAreEmpty : {S : Type 0} → Code S → Type 0
NewObjectsAreEmpty {S} code = (b : Bounds) (is_thread : ℕ → Bool) (c : ℕ → Core S) (acts : List Act) → IsLaidRun code b is_thread c acts
    → (k t r w : ℕ) (th : ThreadState S) (answer : StepAnswer) → slice_get acts k ≡ Some (did t (SetHeader r w) answer) → (c k).threads t ≡ Some th
    → (m n : ℕ) × (code.next th.local ≡ Want (New m n)) × IsNewObject b c k r (record { class = m; length = n; words = code.words th.local m n })

-- ---- what threads have logged and hold

-- the place is that of a word of an object that is there, and that isn't a start word
pub record IsWordPlace (is_thread : ℕ → Bool) (objects : Objects) (at : ℕ) : Type 0 where
  pub r : ℕ
  pub i : ℕ
  pub o : Object
  pub there : objects r ≡ Some o
  pub low : i < o.words
  pub place : at ≡ word_place r i
  pub kept : is_thread o.class ≡ true → i ≢ 1

-- A thread has logged words of objects that are there, and holds and held monitors of objects that are.
pub record NamesObjects {S : Type 0} (is_thread : ℕ → Bool) (objects : Objects) (th : ThreadState S) : Type 0 where
  pub logged : (x : Noted) → Contains th.log x → IsWordPlace is_thread objects x.at
  pub held : (h : Held) → Contains th.held h → IsThere objects h.object
  pub marked : (m : Mark) (h : Held) → Contains th.marks m → Contains m.held h → IsThere objects h.object

-- so it is with each thread at each place
abbrev pub ThreadsNameObjects : {S : Type 0} → Code S → Type 0
ThreadsNameObjects {S} code = (b : Bounds) (is_thread : ℕ → Bool) (c : ℕ → Core S) (acts : List Act) → IsLaidRun code b is_thread c acts
    → (k t : ℕ) (th : ThreadState S) → k ≤ length acts → (c k).threads t ≡ Some th → NamesObjects is_thread (c k).objects th
