-- What comes of threads on shared words that follow a schedule and keep a journal.
use Rattle.std.specs.Prelude.{◌≡◌, ◌≤◌, ℕ, true, None, List, length}
use Rattle.op_core.specs.ThreadCode.{Code}
use Rattle.schedules.specs.declared.order.Schedule.{Schedule}
use Rattle.schedules.specs.Run.{Run, Goes}
use Rattle.thread_automaton.specs.declared.Bounds.{Bounds}
use Rattle.core_runs.specs.Cores.{Core}
use Rattle.core_runs.specs.Acts.{Act, ActFrom}
use Rattle.word_runs.specs.WordTurns.{Progress, word_turns}
use Rattle.word_runs.specs.Laws.{begun_with}
use Rattle.trace_journal.specs.declared.item.JournalItem.{JournalItem}
use Rattle.trace_journal.specs.Text.{events_in, undos_in}
use Rattle.journal_rows.specs.declared.kept.KeptJournal.{KeptJournal}
use Rattle.journal_rows.specs.Told.{after_row_calls, items_left}
use Rattle.core_law.specs.Calls.{end_calls_told}
use Rattle.sched_core.specs.Outcome.{rest_of, TellsPlace}
use Rattle.traced_runs.specs.declared.outcome.TracedOutcome.{TracedOutcome}
use Rattle.traced_runs.specs.Told.{told_at}

-- what is left of the rows that these acts tell, once the threads below number n have told what they are to undo
abbrev pub journal_left : {S : Type 0} → Code S → Bounds → (ℕ → Core S) → List Act → ℕ → List JournalItem
journal_left code b c acts n = items_left (after_row_calls (end_calls_told (c (length acts)) n) (told_at code b c acts (length acts)))

-- The journal has the events and undoings that are left of what the acts tell, which lead on from a core to this place; they tell as
-- many as the run counts. From a number on there is no thread.
pub record KeepsJournal {S : Type 0} (code : Code S) (b : Bounds) (core : Core S) (last : Progress S) (journal : KeptJournal) : Type 0 where
  pub count : ℕ
  pub above : (t : ℕ) → count ≤ t → last.core.threads t ≡ None
  pub items : (c : ℕ → Core S) → c 0 ≡ core → ActFrom code b c 0 last.acts → last.shown ≡ length (told_at code b c last.acts (length last.acts)).items
  pub events : (c : ℕ → Core S) → c 0 ≡ core → ActFrom code b c 0 last.acts → journal.events ≡ events_in (journal_left code b c last.acts count)
  pub undos : (c : ℕ → Core S) → c 0 ≡ core → ActFrom code b c 0 last.acts → journal.undos ≡ undos_in 0 (journal_left code b c last.acts count)

-- The turns of some threads lead from the core to the run's last state, where it ends as the outcome says, at the latest where the
-- journal is full. The outcome tells of that state, and has the journal of the turns.
pub record IsTracedOutcome {S : Type 0} (code : Code S) (b : Bounds) (core : Core S) (schedule : Schedule) (outcome : TracedOutcome) : Type 0 where
  pub threads : List ℕ
  pub last : Run (Progress S)
  pub goes : Goes (word_turns code b) (begun_with core (rest_of schedule) true) threads outcome.run.how last
  pub told : TellsPlace code last.state outcome.run
  pub journal : KeepsJournal code b core last.state outcome.journal
