-- What a check makes of the rest of a text.
use Rattle.std.specs.Prelude.{◌≡◌, ℕ, ◌+◌, List, length, Result, Ok, Err}
use Rattle.op_core.specs.ThreadCode.{Code}
use Rattle.ordinary_machine.specs.Machine.{Machine, machine_of}
use Rattle.trace_journal.specs.declared.item.JournalFault.{JournalFault}
use Rattle.trace_journal.specs.declared.item.JournalItem.{JournalItem}
use Rattle.trace_journal.specs.Reading.{Read, line_of}
use Rattle.trace_journal.specs.Reader.{with_items, ReadsOn}
use Rattle.journal_check.specs.declared.checking.Checking.{Checking}
use Rattle.journal_check.specs.declared.progress.Progress.{Progress}
use Rattle.journal_check.specs.declared.progress.Progress.TheVariants.{Going, Refused}
use Rattle.journal_check.specs.Checked.{AreChecked}

-- what is still read comes to this, where the next item is in line n
abbrev pub GoesOn : {C S : Type 0} → Code S → (C → S) → Progress C → ℕ → Result Read JournalFault → Result (Machine S) ℕ → Type 0
GoesOn code state (Going machine) n (Ok read) found = AreChecked code (machine_of state machine) n read.items found
GoesOn code state (Refused line) n (Ok read) found = found ≡ Err line
GoesOn code state progress n (Err fault) found = found ≡ Err (line_of fault)

-- Some items, the first in line n, lead from one progress to another.
pub record Judges {C S : Type 0} (code : Code S) (state : C → S) (old new : Progress C) (n : ℕ) (items : List JournalItem) : Type 0 where
  pub goes : (others : Result Read JournalFault) (found : Result (Machine S) ℕ) → GoesOn code state new (n + length items) others found → GoesOn code state old n (with_items items others) found

-- Where these bytes come next and then the text ends, the check finds this.
pub record ChecksOn {C S : Type 0} (code : Code S) (state : C → S) (checking : Checking C) (more : List ℕ) (found : Result (Machine S) ℕ) : Type 0 where
  pub read : Result Read JournalFault
  pub reads : ReadsOn checking.reader more read
  pub goes : GoesOn code state checking.progress (checking.reader.count + 2) read found
