-- How many bits the numbers of threads and the words of objects have along a run.
use Rattle.std.specs.Prelude.{◌≡◌, ◌<◌, ◌^◌, ℕ, Bool, Some, List}
use Rattle.op_core.specs.ThreadCode.{Code}
use Rattle.heap_words.specs.declared.areas.Area.TheVariants.{Object}
use Rattle.thread_automaton.specs.declared.Bounds.{Bounds}
use Rattle.thread_automaton.specs.ThreadState.{ThreadState}
use Rattle.core_runs.specs.Cores.{Core}
use Rattle.core_runs.specs.Acts.{Act}
use Rattle.section_laws.specs.OwnWords.{IsInBits}
use Rattle.section_laws.specs.Numbers.{AreNumbered}
use Rattle.section_laws.specs.Layout.{IsLaidRun}

-- Each thread is found by its own number, which was drawn; numbers and priorities have 8 bits, and words of objects 64.
pub record BeginsInBits {S : Type 0} (c : Core S) : Type 0 where
  pub numbers : AreNumbered c
  pub priorities : (t : ℕ) (th : ThreadState S) → c.threads t ≡ Some th → th.priority < 2 ^ 8
  pub words : (at : ℕ) → c.words (Object at) < 2 ^ 64

-- so it is along the run
abbrev pub RunsAreInBits : {S : Type 0} → Code S → Type 0
RunsAreInBits {S} code = (b : Bounds) (is_thread : ℕ → Bool) (c : ℕ → Core S) (acts : List Act) → IsLaidRun code b is_thread c acts → BeginsInBits (c 0)
    → IsInBits c acts
