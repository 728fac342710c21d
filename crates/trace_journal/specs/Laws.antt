-- What is proved of all journals.
use Rattle.std.specs.Prelude.{◌≡◌, ℕ, ◌<◌, ◌≤◌, ◌^◌, List, length, Result, Ok}
use Rattle.std.specs.List.{AllByRecursion}
use Rattle.trace_journal.specs.declared.item.JournalFault.{JournalFault}
use Rattle.trace_journal.specs.declared.item.JournalItem.{JournalItem}
use Rattle.trace_journal.specs.declared.item.JournalLimits.{JournalLimits}
use Rattle.trace_journal.specs.declared.item.TheConstants.{LARGEST}
use Rattle.trace_journal.specs.Spelling.{IsItem}
use Rattle.trace_journal.specs.Text.{text_of}
use Rattle.trace_journal.specs.Reading.{Read, IsKnown, IsRead}

-- A text is read in one way.
abbrev pub TextsHaveOneReading : Type 0
TextsHaveOneReading = (limits : JournalLimits) (text : List ℕ) (found other : Result Read JournalFault) → IsRead limits text found → IsRead limits text other → other ≡ found

-- A text that is read as a journal is the text of that journal.
abbrev pub ReadingsAreJournals : Type 0
ReadingsAreJournals = (limits : JournalLimits) (text : List ℕ) (read : Read) → IsRead limits text (Ok read)
    → IsKnown read.version × (text ≡ text_of read.version read.items) × AllByRecursion (IsItem read.version) read.items

-- The text of a journal is read as that journal, if it is within the limits.
abbrev pub JournalsReadBack : Type 0
JournalsReadBack = (limits : JournalLimits) (read : Read) → limits.items < 2 ^ 32 → IsKnown read.version → AllByRecursion (IsItem read.version) read.items
    → length read.items ≤ limits.items → length (text_of read.version read.items) ≤ limits.bytes → IsRead limits (text_of read.version read.items) (Ok read)

-- A journal has at most as many bytes as a text may have, if it has at most as many events and undos.
abbrev pub JournalsFit : Type 0
JournalsFit = (version : ℕ) (items : List JournalItem) → IsKnown version → AllByRecursion (IsItem version) items → length items ≤ LARGEST.items → length (text_of version items) ≤ LARGEST.bytes
