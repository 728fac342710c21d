-- What a reader makes of the rest of a text.
use Rattle.std.specs.Prelude.{◌≡◌, ℕ, ◌+◌, Bool, nat_lt, List, ◌∷◌, ◌++◌, length, take, Result, Ok, Err}
use Rattle.trace_journal.specs.declared.item.JournalFault.{JournalFault}
use Rattle.trace_journal.specs.declared.item.JournalItem.{JournalItem}
use Rattle.trace_journal.specs.declared.state.JournalReader.{JournalReader}
use Rattle.trace_journal.specs.declared.state.Stage.{Stage}
use Rattle.trace_journal.specs.declared.state.Stage.TheVariants.{Head, Items, Closed, Failed}
use Rattle.trace_journal.specs.Text.{Lines, lines_of}
use Rattle.trace_journal.specs.Reading.{Read, AreRead, AreReadFrom, Closes, of_version}

-- items that were read before
abbrev pub with_items : List JournalItem → Result Read JournalFault → Result Read JournalFault
with_items items (Ok read) = Ok (record { version = read.version; items = items ++ read.items })
with_items items (Err fault) = Err fault

-- From a stage on, after `count` items, `events` of them events, these lines are read as `found`.
abbrev pub FromStage : Stage → Bool → ℕ → ℕ → ℕ → Lines → Result Read JournalFault → Type 0
FromStage Head past most count events lines found = AreReadFrom past most lines.ended lines.rest found
FromStage (Items version) past most count events lines found =
    (others : Result (List JournalItem) JournalFault) × AreRead past version most count events lines.ended lines.rest others × (found ≡ of_version version others)
FromStage (Closed version) past most count events lines found =
    (others : Result (List JournalItem) JournalFault) × Closes past (count + 3) lines.ended lines.rest others × (found ≡ of_version version others)
FromStage (Failed fault) past most count events lines found = found ≡ Err fault

-- Where these bytes come next and then the text ends, the reader finds this.
abbrev pub ReadsOn : JournalReader → List ℕ → Result Read JournalFault → Type 0
ReadsOn reader more found =
    FromStage reader.stage (nat_lt reader.left (length more)) reader.limits.items reader.count reader.events (lines_of (reader.part.items ++ take reader.left more)) found

-- A reader goes on over a piece of a text, and puts the items that it finds after the others.
pub record Feeds (old new : JournalReader) (piece : List ℕ) (before after : List JournalItem) : Type 0 where
  pub added : List JournalItem
  pub items : after ≡ before ++ added
  pub counts : new.count ≡ old.count + length added
  pub reads : (more : List ℕ) (found : Result Read JournalFault) → ReadsOn new more found → ReadsOn old (piece ++ more) (with_items added found)

-- A line leads from a stage to another, whatever lines come after it.
pub record LineTakes (most : ℕ) (line : List ℕ) (old : Stage) (count events : ℕ) (new : Stage) (count' events' : ℕ) (before after : List JournalItem) : Type 0 where
  pub added : List JournalItem
  pub items : after ≡ before ++ added
  pub counts : count' ≡ count + length added
  pub reads : (past : Bool) (lines : Lines) (found : Result Read JournalFault) → FromStage new past most count' events' lines found
      → FromStage old past most count events (record { ended = line ∷ lines.ended; rest = lines.rest }) (with_items added found)

-- the line that the next byte of a text is in
abbrev pub line_in : Stage → ℕ → ℕ
line_in Head count = 1
line_in (Items version) count = count + 2
line_in (Closed version) count = count + 3
line_in (Failed fault) count = count + 3
