-- The words of threads along a run, which say who has ended.
use Rattle.std.specs.Prelude.{◌≡◌, ◌≤◌, ℕ, Option, None, Some, List, length, if◌then◌else◌}
use Rattle.op_core.specs.ThreadCode.{Code}
use Rattle.heap_words.specs.declared.areas.Area.{Area}
use Rattle.step_port.specs.Words.{Words}
use Rattle.thread_automaton.specs.declared.Bounds.{Bounds}
use Rattle.thread_automaton.specs.ThreadState.{ThreadState}
use Rattle.core_runs.specs.Cores.{Core}
use Rattle.core_runs.specs.Acts.{Act}
use Rattle.section_laws.specs.Runs.{IsRun}
use Rattle.section_laws.specs.Numbers.{AreNumbered}

-- no thread has ended yet
abbrev pub HasNoEnds : Words → Type 0
HasNoEnds w = (t : ℕ) → w (Area.Thread t) ≡ 0

-- 1 for a thread that is over, else 0
abbrev pub end_word : {S : Type 0} → Option (ThreadState S) → ℕ
end_word None = 0
end_word (Some th) = if th.over then 1 else 0

-- that is the word of each thread
abbrev pub EndsAreKnown : {S : Type 0} → Code S → Type 0
EndsAreKnown {S} code = (b : Bounds) (c : ℕ → Core S) (acts : List Act) → IsRun code b c acts → AreNumbered (c 0) → HasNoEnds (c 0).words
    → (k t : ℕ) → k ≤ length acts → (c k).words (Area.Thread t) ≡ end_word ((c k).threads t)
