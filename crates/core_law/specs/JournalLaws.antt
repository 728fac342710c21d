-- What is proved of the journals of runs.
use Rattle.std.specs.Prelude.{◌≡◌, ◌≤◌, ℕ, Bool, List, length}
use Rattle.op_core.specs.ThreadCode.{Code}
use Rattle.op_core.specs.InPlaceList.{Entry}
use Rattle.op_core.specs.CleanCut.{kept_by}
use Rattle.trace_journal.specs.declared.item.JournalItem.{JournalItem}
use Rattle.trace_journal.specs.Text.{events_in, undos_in, merged}
use Rattle.thread_automaton.specs.declared.Bounds.{Bounds}
use Rattle.core_runs.specs.Cores.{Core}
use Rattle.core_runs.specs.Acts.{Act}
use Rattle.section_laws.specs.Settled.{to_undo}
use Rattle.first_law.specs.Cuts.{is_cut_by}
use Rattle.core_law.specs.CleanCuts.{IsShownRun}
use Rattle.journal_rows.specs.Told.{after_row_calls, items_left}
use Rattle.core_law.specs.Journal.{run_journal}
use Rattle.core_law.specs.RunCalls.{rows_at, end_calls}

-- The events of a journal are those that are left.
abbrev pub JournalsHaveEvents : Type 0 → Type 0
JournalsHaveEvents S = (c : ℕ → Core S) (cut : ℕ → Bool) (acts : List Act) (es : List Entry) → length es ≡ length acts
    → events_in (run_journal c cut acts es) ≡ kept_by cut es

-- Its events and undoings, each undoing with the number of events before it, make up the journal again.
abbrev pub JournalsAreMerged : Type 0
JournalsAreMerged = (items : List JournalItem) → merged 0 (events_in items) (undos_in 0 items) ≡ items

-- What is left of the rows that a run tells is its journal, where no thread from number n on has levels to undo at its end.
abbrev pub RowsAreJournals : {S : Type 0} → Code S → Type 0
RowsAreJournals {S} code = (b : Bounds) (first : S) (classes : ℕ) (c : ℕ → Core S) (acts : List Act) (es : List Entry) (doomed : ℕ → Bool)
    → IsShownRun code b first classes c acts es doomed
    → (n : ℕ) → ((t : ℕ) → n ≤ t → to_undo doomed ((c (length acts)).levels t) ≡ 0)
    → items_left (after_row_calls (end_calls doomed (c (length acts)).levels n) (rows_at c acts es (length acts))) ≡ run_journal c (is_cut_by doomed c acts) acts es
