-- The numbers of threads along a run.
use Rattle.std.specs.Prelude.{◌≡◌, ◌<◌, ◌≤◌, ◌^◌, ℕ, None, Some, List, length, slice_get}
use Rattle.op_core.specs.ThreadCode.{Code}
use Rattle.heap_words.specs.declared.areas.Area.TheVariants.{Control}
use Rattle.step_port.specs.declared.answer.StepAnswer.{StepAnswer}
use Rattle.step_port.specs.declared.step.Step.TheVariants.{Split}
use Rattle.thread_automaton.specs.declared.Bounds.{Bounds}
use Rattle.thread_automaton.specs.ThreadState.{ThreadState}
use Rattle.core_runs.specs.Cores.{Core}
use Rattle.core_runs.specs.Acts.{Act, did}
use Rattle.section_laws.specs.Runs.{IsRun}

-- Each thread is found by its own number, which has 8 bits and is one of those that were drawn.
pub record AreNumbered {S : Type 0} (c : Core S) : Type 0 where
  pub own : (t : ℕ) (th : ThreadState S) → c.threads t ≡ Some th → th.number ≡ t
  pub drawn : (t : ℕ) (th : ThreadState S) → c.threads t ≡ Some th → t ≤ c.words (Control 4)
  pub low : (t : ℕ) (th : ThreadState S) → c.threads t ≡ Some th → t < 2 ^ 8

-- so it is at each place of a run that begins so
abbrev pub ThreadsAreNumbered : {S : Type 0} → Code S → Type 0
ThreadsAreNumbered {S} code = (b : Bounds) (c : ℕ → Core S) (acts : List Act) → IsRun code b c acts → AreNumbered (c 0)
    → (k : ℕ) → k ≤ length acts → AreNumbered (c k)

-- and no thread is there yet with the number of one that is handed out
abbrev pub ThreadsAreNew : {S : Type 0} → Code S → Type 0
ThreadsAreNew {S} code = (b : Bounds) (c : ℕ → Core S) (acts : List Act) → IsRun code b c acts → AreNumbered (c 0)
    → (k t n r p : ℕ) (answer : StepAnswer) → slice_get acts k ≡ Some (did t (Split n r p) answer) → (c k).threads n ≡ None
