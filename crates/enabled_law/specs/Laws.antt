-- What is so of threads that are given turns alone, at each place of a run.
use Rattle.std.specs.Prelude.{◌≡◌, ◌<◌, ◌≤◌, ℕ, false, Some, List, length}
use Rattle.op_core.specs.ThreadCode.{Code}
use Rattle.step_port.specs.declared.step.Step.{Step}
use Rattle.step_port.specs.Words.{answer_of, words_after}
use Rattle.thread_automaton.specs.declared.Bounds.{Bounds}
use Rattle.thread_automaton.specs.declared.Move.TheVariants.{Make}
use Rattle.thread_automaton.specs.declared.Attempt.{Attempt}
use Rattle.thread_automaton.specs.declared.Attempt.TheVariants.{Begin, Look}
use Rattle.thread_automaton.specs.ThreadState.{ThreadState}
use Rattle.thread_automaton.specs.NextMove.{next_move}
use Rattle.thread_automaton.specs.Told.{told}
use Rattle.core_runs.specs.Cores.{Core}
use Rattle.core_runs.specs.Acts.{Act}
use Rattle.section_laws.specs.Runs.{IsRun}
use Rattle.word_runs.specs.Enabled.{is_enabled}
use Rattle.enabled_law.specs.TurnsAlone.{counts, goes_on_in}

-- nothing of the next attempt is made
abbrev pub IsBetweenAttempts : Attempt → Type 0
IsBetweenAttempts Begin = Unit {0}
IsBetweenAttempts Look = Unit {0}
IsBetweenAttempts attempt = ⊥

-- A thread that isn't enabled, is between two attempts, and hasn't made its number of counted turns has neither a counted turn
-- alone nor meets a limit, however many turns it is given.
abbrev pub OthersStay : {S : Type 0} → Code S → Type 0
OthersStay {S} code = (b : Bounds) (c : ℕ → Core S) (acts : List Act) → IsRun code b c acts
    → (k t : ℕ) (th : ThreadState S) → k ≤ length acts → (c k).threads t ≡ Some th
    → is_enabled code (c k).words th ≡ false → IsBetweenAttempts th.attempt → th.counted < b.limits.turns
    → (n : ℕ) → goes_on_in code b n th (c k).words ≡ false

-- A turn in which a thread makes a step and that doesn't count leaves the words as they are. So each turn that changes a word counts.
abbrev pub UncountedTurnsLeaveWords : {S : Type 0} → Code S → Type 0
UncountedTurnsLeaveWords {S} code = (b : Bounds) (c : ℕ → Core S) (acts : List Act) → IsRun code b c acts
    → (k t : ℕ) (th : ThreadState S) (step : Step) → k ≤ length acts → (c k).threads t ≡ Some th → next_move code b th ≡ Make step
    → counts (told code b th step (answer_of (c k).words step)) ≡ false → words_after step (c k).words ≡ (c k).words
