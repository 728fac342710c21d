-- What is proved of the journals of runs that follow a schedule.
use Rattle.std.specs.Prelude.{◌≡◌, ◌≤◌, ◌+◌, ℕ, Bool, None, List, length}
use Rattle.op_core.specs.ThreadCode.{Code}
use Rattle.schedules.specs.declared.order.Schedule.{Schedule}
use Rattle.thread_automaton.specs.declared.Bounds.{Bounds}
use Rattle.core_runs.specs.Cores.{Core}
use Rattle.core_runs.specs.Acts.{Act}
use Rattle.first_law.specs.Free.{IsFreeRun}
use Rattle.core_law.specs.Erasure.{Erasure, is_left_out}
use Rattle.core_law.specs.Journal.{run_journal}
use Rattle.traced_runs.specs.declared.outcome.TracedOutcome.{TracedOutcome}
use Rattle.traced_runs.specs.Outcome.{journal_left, IsTracedOutcome}

-- What is left of what the acts of a run tell is the journal of what is left of the run, where it is one as `grounded_monitors` has
-- them. From number n on there is no thread.
abbrev pub RowsLeftAreJournals : {S : Type 0} → Code S → Type 0
RowsLeftAreJournals {S} code = (b : Bounds) (is_thread : ℕ → Bool) (first : S) (classes : ℕ) (c : ℕ → Core S) (acts : List Act)
    → IsFreeRun code b is_thread first classes c acts → (left : Erasure code b is_thread c acts) (n : ℕ)
    → ((t : ℕ) → n ≤ t → (c (length acts)).threads t ≡ None) → journal_left code b c acts n ≡ run_journal c (is_left_out c acts) acts left.entries

-- A journal that was kept has at most 4,194,304 events and undoings.
abbrev pub KeptJournalsFit : {S : Type 0} → Code S → Type 0
KeptJournalsFit {S} code = (b : Bounds) (core : Core S) (schedule : Schedule) (outcome : TracedOutcome) → IsTracedOutcome code b core schedule outcome
    → length outcome.journal.events + length outcome.journal.undos ≤ 4194304
