-- What is proved of what threads tell.
use Rattle.std.specs.Prelude.{◌≡◌, ◌≤◌, ◌+◌, ℕ, suc, Bool, None, Some, List, [], ◌∷◌, ◌++◌, length, slice_get}
use Rattle.op_core.specs.ThreadCode.{Code}
use Rattle.op_core.specs.InPlaceList.{Entry}
use Rattle.op_core.specs.CleanCut.{kept_by}
use Rattle.step_port.specs.declared.answer.StepAnswer.{StepAnswer}
use Rattle.step_port.specs.declared.step.Step.{Step}
use Rattle.thread_automaton.specs.declared.Bounds.{Bounds}
use Rattle.thread_automaton.specs.ThreadState.{ThreadState}
use Rattle.thread_automaton.specs.Told.{told, after_answer}
use Rattle.trace_journal.specs.Text.{events_in}
use Rattle.core_runs.specs.Cores.{Core}
use Rattle.core_runs.specs.Acts.{Act, quiet, did}
use Rattle.word_runs.specs.WordTurns.{counts_for}
use Rattle.first_law.specs.Free.{IsFreeRun}
use Rattle.core_law.specs.CleanCuts.{IsShownRun}
use Rattle.core_law.specs.Erasure.{Erasure, is_left_out}
use Rattle.journal_rows.specs.Told.{after_row_calls, items_left}
use Rattle.core_law.specs.Journal.{run_journal}
use Rattle.core_law.specs.RunCalls.{calls_at, rows_at}
use Rattle.core_law.specs.Calls.{step_calls, end_calls_told}

-- A thread tells what its act tells, of each step that it makes.
abbrev pub StepsTellRows : {S : Type 0} → Code S → Type 0
StepsTellRows {S} code = (b : Bounds) (first : S) (classes : ℕ) (c : ℕ → Core S) (acts : List Act) (es : List Entry) (doomed : ℕ → Bool)
    → IsShownRun code b first classes c acts es doomed
    → (k t : ℕ) (step : Step) (a : StepAnswer) (th : ThreadState S) → slice_get acts k ≡ Some (did t step a) → (c k).threads t ≡ Some th
    → calls_at c k (slice_get acts k) (slice_get es k) ≡ step_calls t th (code.next th.local) step (told code b th step a) (after_answer code b th step a)

-- and its silent moves tell nothing
abbrev pub SilentMovesTellNothing : {S : Type 0} → Code S → Type 0
SilentMovesTellNothing {S} code = (b : Bounds) (first : S) (classes : ℕ) (c : ℕ → Core S) (acts : List Act) (es : List Entry) (doomed : ℕ → Bool)
    → IsShownRun code b first classes c acts es doomed
    → (k t : ℕ) → slice_get acts k ≡ Some (quiet t) → calls_at c k (slice_get acts k) (slice_get es k) ≡ []

-- An act more tells the rows what it tells.
abbrev pub RowsGoOn : Type 0 → Type 0
RowsGoOn S = (c : ℕ → Core S) (acts : List Act) (es : List Entry) (x : Act) (e : Entry) → length es ≡ length acts
    → rows_at c (acts ++ x ∷ []) (es ++ e ∷ []) (suc (length acts)) ≡ after_row_calls (calls_at c (length acts) (Some x) (Some e)) (rows_at c acts es (length acts))

-- Each step adds as many items as it counts for against the limit of a journal.
abbrev pub ItemsAreCounted : {S : Type 0} → Code S → Type 0
ItemsAreCounted {S} code = (b : Bounds) (first : S) (classes : ℕ) (c : ℕ → Core S) (acts : List Act) (es : List Entry) (doomed : ℕ → Bool)
    → IsShownRun code b first classes c acts es doomed
    → (k t : ℕ) (step : Step) (a : StepAnswer) (th : ThreadState S) → slice_get acts k ≡ Some (did t step a) → (c k).threads t ≡ Some th
    → length (rows_at c acts es (suc k)).items ≡ length (rows_at c acts es k).items + counts_for step (told code b th step a)

-- What is left of the rows, once the threads have told what they are to undo where the run ends, is the journal of what is left of
-- the run, without the levels that are revoked at any place of it; and its events are the execution that is left. From number n on
-- there is no thread.
pub record TellsJournal {S : Type 0} (code : Code S) (b : Bounds) (is_thread : ℕ → Bool) (c : ℕ → Core S) (acts : List Act)
    (left : Erasure code b is_thread c acts) (n : ℕ) : Type 0 where
  pub items : items_left (after_row_calls (end_calls_told (c (length acts)) n) (rows_at c acts left.entries (length acts)))
      ≡ run_journal c (is_left_out c acts) acts left.entries
  pub events : events_in (run_journal c (is_left_out c acts) acts left.entries) ≡ kept_by (is_left_out c acts) left.entries

abbrev pub ThreadsTellJournals : {S : Type 0} → Code S → Type 0
ThreadsTellJournals {S} code = (b : Bounds) (is_thread : ℕ → Bool) (first : S) (classes : ℕ) (c : ℕ → Core S) (acts : List Act)
    → IsFreeRun code b is_thread first classes c acts → (left : Erasure code b is_thread c acts) (n : ℕ)
    → ((t : ℕ) → n ≤ t → (c (length acts)).threads t ≡ None) → TellsJournal code b is_thread c acts left n
