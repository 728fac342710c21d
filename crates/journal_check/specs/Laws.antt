-- What is proved of all checks of journals.
use Rattle.std.specs.Prelude.{◌≡◌, ℕ, ◌≤◌, List, length, map, Result, Ok}
use Rattle.std.specs.List.{AllByRecursion}
use Rattle.op_core.specs.declared.Event.{Event}
use Rattle.op_core.specs.ThreadCode.{Code}
use Rattle.op_core.specs.OrdinaryState.{OrdinaryState}
use Rattle.op_core.specs.Execution.{Leads}
use Rattle.ordinary_machine.specs.Machine.{Machine}
use Rattle.ordinary_machine.specs.Step.{Replays, IsReplayed, event_without_line}
use Rattle.trace_journal.specs.declared.item.JournalItem.{JournalItem}
use Rattle.trace_journal.specs.declared.item.TheConstants.{LARGEST}
use Rattle.trace_journal.specs.Spelling.{IsItem}
use Rattle.trace_journal.specs.Text.{events_in, text_of}
use Rattle.trace_journal.specs.Reading.{Read, IsRead}
use Rattle.journal_check.specs.Checked.{IsChecked}

-- A text comes to one thing.
abbrev pub ChecksHaveOneOutcome : {S : Type 0} → Code S → Type 0
ChecksHaveOneOutcome {S} code = (m : Machine S) (text : List ℕ) (found other : Result (Machine S) ℕ) → IsChecked code m text found → IsChecked code m text other → other ≡ found

-- The text is a journal. Its events are steps one after another, to the last machine; with the threads' own lines they are an
-- execution.
pub record IsAccepted {S : Type 0} (code : Code S) (m : Machine S) (text : List ℕ) (last : Machine S) : Type 0 where
  pub journal : Read
  pub is_read : IsRead LARGEST text (Ok journal)
  pub steps : Replays code m (events_in journal.items) last
  pub execution : IsReplayed code m.now (events_in journal.items) last.now

abbrev pub AcceptedTextsAreExecutions : {S : Type 0} → Code S → Type 0
AcceptedTextsAreExecutions {S} code = (m last : Machine S) (text : List ℕ) → IsChecked code m text (Ok last) → IsAccepted code m text last

-- The journal of an execution is accepted, whatever undos it has.
abbrev pub ExecutionsAreAccepted : {S : Type 0} → Code S → Type 0
ExecutionsAreAccepted {S} code = (m : Machine S) (events : List Event) (items : List JournalItem) (last : OrdinaryState S) → Leads code m.now events last
    → events_in items ≡ map event_without_line events → AllByRecursion (IsItem 2) items → length items ≤ LARGEST.items
    → (new : Machine S) × IsChecked code m (text_of 2 items) (Ok new) × (new.now ≡ last)
