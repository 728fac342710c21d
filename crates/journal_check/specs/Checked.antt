-- What the check of a text comes to: the machine after the events of a journal, or the line that shows that it is none of an
-- execution.
use Rattle.std.specs.Prelude.{◌≡◌, ◌≢◌, ◌⊎◌, ℕ, ◌+◌, List, [], ◌∷◌, Result, Ok, Err}
use Rattle.op_core.specs.declared.Event.{Event}
use Rattle.op_core.specs.ThreadCode.{Code}
use Rattle.ordinary_machine.specs.declared.step.StepRefusal.{StepRefusal}
use Rattle.ordinary_machine.specs.declared.step.StepRefusal.TheVariants.{NoMemory}
use Rattle.ordinary_machine.specs.Machine.{Machine}
use Rattle.ordinary_machine.specs.Step.{IsStepTo, Refuses}
use Rattle.trace_journal.specs.declared.item.JournalFault.{JournalFault}
use Rattle.trace_journal.specs.declared.item.JournalItem.{JournalItem}
use Rattle.trace_journal.specs.declared.item.JournalItem.TheVariants.{Event as event_item, Undone}
use Rattle.trace_journal.specs.declared.item.TheConstants.{LARGEST}
use Rattle.trace_journal.specs.Reading.{Read, IsRead, line_of}

-- the event is no step of the machine, and memory has nothing to do with it
pub record IsNoStep {S : Type 0} (code : Code S) (m : Machine S) (e : Event) : Type 0 where
  pub why : StepRefusal
  pub real : why ≢ NoMemory
  pub refuses : Refuses code m.now e why

-- The items from line n on: their events are steps one after another, which lead to a machine; or one is none, and its line is
-- found.
abbrev pub AreChecked : {S : Type 0} → Code S → Machine S → ℕ → List JournalItem → Result (Machine S) ℕ → Type 0
AreChecked code m n [] found = found ≡ Ok m
AreChecked {S} code m n (event_item e ∷ items) found =
    ((next : Machine S) × IsStepTo code m e next × AreChecked code next (n + 1) items found)
    ⊎ (IsNoStep code m e × (found ≡ Err n))
AreChecked code m n (Undone t l k ∷ items) found = AreChecked code m (n + 1) items found

-- a fault of the text goes before the first event that is no step
abbrev pub IsCheckedAs : {S : Type 0} → Code S → Machine S → Result Read JournalFault → Result (Machine S) ℕ → Type 0
IsCheckedAs code m (Ok read) found = AreChecked code m 2 read.items found
IsCheckedAs code m (Err fault) found = found ≡ Err (line_of fault)

-- the text is read, and its events are checked from the machine on
pub record IsChecked {S : Type 0} (code : Code S) (m : Machine S) (text : List ℕ) (found : Result (Machine S) ℕ) : Type 0 where
  pub read : Result Read JournalFault
  pub is_read : IsRead LARGEST text read
  pub checked : IsCheckedAs code m read found
