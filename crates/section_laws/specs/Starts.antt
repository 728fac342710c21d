-- The start words of thread objects along a run, and the threads that are about to begin.
use Rattle.std.specs.Prelude.{◌≡◌, ◌≢◌, ◌<◌, ◌≤◌, ◌+◌, ◌^◌, ◌⊎◌, ℕ, Bool, true, None, Some, List, length}
use Rattle.op_core.specs.declared.Op.TheVariants.{Join}
use Rattle.op_core.specs.declared.Next.TheVariants.{Want}
use Rattle.op_core.specs.ThreadCode.{Code}
use Rattle.op_core.specs.OrdinaryState.{Object}
use Rattle.heap_words.specs.declared.areas.Area.{Area}
use Rattle.heap_words.specs.declared.areas.Area.TheVariants.{Control}
use Rattle.step_port.specs.declared.step.ThreadWord.TheVariants.{Ended}
use Rattle.step_port.specs.declared.step.Step.TheVariants.{StartThread, LoadThread, Split}
use Rattle.thread_automaton.specs.declared.Bounds.{Bounds}
use Rattle.thread_automaton.specs.declared.Attempt.TheVariants.{Fixed}
use Rattle.thread_automaton.specs.ThreadState.{ThreadState}
use Rattle.core_runs.specs.Cores.{Core}
use Rattle.core_runs.specs.Acts.{Act}
use Rattle.section_laws.specs.Numbers.{AreNumbered}
use Rattle.section_laws.specs.Layout.{Objects, IsLaidRun}

-- at r lies a thread object that has its word 1, the start word
abbrev pub IsThreadObject : (ℕ → Bool) → Objects → ℕ → Type 0
IsThreadObject is_thread objects r = (o : Object) × (objects r ≡ Some o) × (is_thread o.class ≡ true) × (1 < o.words)

-- its start word
abbrev pub start_word_of : {S : Type 0} → Core S → ℕ → ℕ
start_word_of c r = c.words (Area.Object (r + 3))

-- thread n is started, and may have been handed out
abbrev pub IsStarted : {S : Type 0} → Core S → ℕ → Type 0
IsStarted {S} c n = ((th : ThreadState S) × (c.threads n ≡ Some th)) ⊎ ((l : S) × (c.starting n ≡ Some l))

-- The start word of a thread object is 0 or the number of a thread that is started, and no other one's.
pub record StartWordsSay {S : Type 0} (is_thread : ℕ → Bool) (c : Core S) : Type 0 where
  pub low : (r : ℕ) → IsThreadObject is_thread c.objects r → start_word_of c r < 2 ^ 8
  pub started : (r : ℕ) → IsThreadObject is_thread c.objects r → 0 < start_word_of c r → (start_word_of c r ≤ c.words (Control 4)) × IsStarted c (start_word_of c r)
  pub apart : (r q : ℕ) → IsThreadObject is_thread c.objects r → IsThreadObject is_thread c.objects q → 0 < start_word_of c r → start_word_of c r ≡ start_word_of c q → r ≡ q

-- What is so of a thread that starts another, or waits for its end.
pub record StartsFit {S : Type 0} (code : Code S) (is_thread : ℕ → Bool) (c : Core S) (th : ThreadState S) : Type 0 where
  -- the number of a thread that is to be started is a new one,
  pub unused : (r n : ℕ) → th.attempt ≡ Fixed (StartThread r n) → (2 ≤ n) × (c.starting n ≡ None) × ((q : ℕ) → IsThreadObject is_thread c.objects q → start_word_of c q ≢ n)
  -- one that is handed out begins at the first local state of its object,
  pub begins : (n r p : ℕ) → th.attempt ≡ Fixed (Split n r p) → c.starting n ≡ Some (code.child th.local r)
  -- and one whose end is waited for is the one that the object has started
  pub awaited : (n r : ℕ) → th.attempt ≡ Fixed (LoadThread (Ended n)) → code.next th.local ≡ Want (Join r) → (0 < n) × (start_word_of c r ≡ n)

pub record StartsAreKnown {S : Type 0} (code : Code S) (is_thread : ℕ → Bool) (c : Core S) : Type 0 where
  pub words : StartWordsSay is_thread c
  pub drawn : (n : ℕ) (l : S) → c.starting n ≡ Some l → n ≤ c.words (Control 4)
  pub threads : (t : ℕ) (th : ThreadState S) → c.threads t ≡ Some th → StartsFit code is_thread c th

-- A run begins with threads at their own numbers and one number drawn at least, with no thread that is about to begin, and
-- with start words that say so.
pub record BeginsWithStarts {S : Type 0} (is_thread : ℕ → Bool) (c : Core S) : Type 0 where
  pub numbers : AreNumbered c
  pub drawn : 1 ≤ c.words (Control 4)
  pub none : (n : ℕ) → c.starting n ≡ None
  pub words : StartWordsSay is_thread c

-- then all this is so at each place
abbrev pub StartsStayKnown : {S : Type 0} → Code S → Type 0
StartsStayKnown {S} code = (b : Bounds) (is_thread : ℕ → Bool) (c : ℕ → Core S) (acts : List Act) → IsLaidRun code b is_thread c acts → BeginsWithStarts is_thread (c 0)
    → (k : ℕ) → k ≤ length acts → StartsAreKnown code is_thread (c k)
