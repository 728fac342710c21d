-- What a text is read as: a journal, or the first line that is wrong.
use Rattle.std.specs.Prelude.{◌≡◌, ℕ, ◌+◌, ◌⊎◌, Bool, true, false, MatchBool, if◌then◌else◌, nat_lt, List, [], ◌∷◌, length, take, codes, Result, Ok, Err}
use Rattle.std.specs.List.{AllByRecursion}
use Rattle.decimal_numbers.specs.Numbers.{are_digits, has_no_leading_zero}
use Rattle.op_core.specs.declared.Event.{Event}
use Rattle.op_core.specs.Replies.{Fits}
use Rattle.trace_journal.specs.declared.item.Journal.{Journal}
use Rattle.trace_journal.specs.declared.item.JournalFault.{JournalFault}
use Rattle.trace_journal.specs.declared.item.JournalFault.TheVariants.{Line, Version, TooMany}
use Rattle.trace_journal.specs.declared.item.JournalItem.{JournalItem}
use Rattle.trace_journal.specs.declared.item.JournalLimits.{JournalLimits}
use Rattle.trace_journal.specs.declared.item.JournalRefusal.{JournalRefusal}
use Rattle.trace_journal.specs.declared.item.JournalRefusal.TheVariants.{Fault, NoMemory}
use Rattle.trace_journal.specs.declared.item.TheConstants.{LARGEST}
use Rattle.trace_journal.specs.Spelling.{Says, joined, head_line, end_line}
use Rattle.trace_journal.specs.Text.{lines_of, events_in, undos_in, places_in}

-- the line that shows a fault
abbrev pub line_of : JournalFault → ℕ
line_of (Line n) = n
line_of Version = 1
line_of (TooMany n) = n

-- a journal that was read
pub record Read : Type 0 where
  pub version : ℕ
  pub items : List JournalItem

-- Line n isn't ended among the bytes that a journal may have.
abbrev pub unended : Bool → ℕ → JournalFault
unended past n = if past then TooMany n else Line n

-- What comes after the last line, from line n on: nothing, or a fault.
abbrev pub Closes : Bool → ℕ → List (List ℕ) → List ℕ → Result (List JournalItem) JournalFault → Type 0
Closes past n (line ∷ lines) rest found = found ≡ Err (Line n)
Closes true n [] rest found = found ≡ Err (TooMany n)
Closes false n [] (b ∷ rest) found = found ≡ Err (Line n)
Closes false n [] [] found = found ≡ Ok []

abbrev pub with_item : JournalItem → Result (List JournalItem) JournalFault → Result (List JournalItem) JournalFault
with_item item (Ok items) = Ok (item ∷ items)
with_item item (Err fault) = Err fault

-- One item more is read, and then `others`; where there are as many items as there may be, it is one too many.
abbrev pub GoesOn : ℕ → ℕ → JournalItem → Result (List JournalItem) JournalFault → (Result (List JournalItem) JournalFault → Type 0) → Type 0
GoesOn most count item found AreOthers =
    MatchBool (nat_lt count most)
    ((others : Result (List JournalItem) JournalFault) × AreOthers others × (found ≡ with_item item others))
    (found ≡ Err (TooMany (count + 2)))

abbrev pub events_with : ℕ → JournalItem → ℕ
events_with events item = events + length (events_in (item ∷ []))

-- The lines after `count` items, `events` of them events, of a journal of this version are read as `found`. The first of
-- them is line `count + 2`.
abbrev pub AreRead : Bool → ℕ → ℕ → ℕ → ℕ → List (List ℕ) → List ℕ → Result (List JournalItem) JournalFault → Type 0
AreRead past version most count events [] rest found = found ≡ Err (unended past (count + 2))
AreRead past version most count events (line ∷ lines) rest found =
    ((line ≡ end_line events) × Closes past (count + 3) lines rest found)
    ⊎ (((item : JournalItem) × Says version line item
    × GoesOn most count item found (AreRead past version most (count + 1) (events_with events item) lines rest))
    ⊎ ((line ≡ end_line events → ⊥) × ((item : JournalItem) → ¬ Says version line item) × (found ≡ Err (Line (count + 2)))))

-- a first line with a number
pub record IsHead (line number : List ℕ) : Type 0 where
  pub spelled : line ≡ joined (codes "jrev-trace" ∷ number ∷ [])
  pub digits : are_digits number ≡ true
  pub lead : has_no_leading_zero number ≡ true

-- the versions that are read
abbrev pub IsKnown : ℕ → Type 0
IsKnown version = (version ≡ 1) ⊎ (version ≡ 2)

abbrev pub of_version : ℕ → Result (List JournalItem) JournalFault → Result Read JournalFault
of_version version (Ok items) = Ok (record { version = version; items = items })
of_version version (Err fault) = Err fault

-- the lines of a text are read as `found`
abbrev pub AreReadFrom : Bool → ℕ → List (List ℕ) → List ℕ → Result Read JournalFault → Type 0
AreReadFrom past most [] rest found = found ≡ Err (unended past 1)
AreReadFrom past most (line ∷ lines) rest found =
    ((version : ℕ) × (others : Result (List JournalItem) JournalFault) × IsKnown version × (line ≡ head_line version)
    × AreRead past version most 0 0 lines rest others × (found ≡ of_version version others))
    ⊎ (((number : List ℕ) × IsHead line number × ((version : ℕ) → IsKnown version → line ≡ head_line version → ⊥) × (found ≡ Err Version))
    ⊎ (((number : List ℕ) → ¬ IsHead line number) × (found ≡ Err (Line 1))))

-- A text is read as a journal within these limits, or has this fault first.
pub record IsRead (limits : JournalLimits) (text : List ℕ) (found : Result Read JournalFault) : Type 0 where
  pub read : AreReadFrom (nat_lt limits.bytes (length text)) limits.items (lines_of (take limits.bytes text)).ended (lines_of (take limits.bytes text)).rest found

-- a journal of this version and of these items, in whose events each reply fits its operation
pub record IsJournalOf (journal : Journal) (read : Read) : Type 0 where
  pub version : journal.version ≡ read.version
  pub events : journal.events ≡ events_in read.items
  pub undos : journal.undos ≡ undos_in 0 read.items
  pub places : journal.places ≡ places_in 2 read.items
  pub fit : AllByRecursion (λ (e : Event). Fits e.op e.reply) journal.events

-- what a text comes to as a whole, where memory doesn't run out
abbrev pub ComesTo : List ℕ → Result Journal JournalRefusal → Type 0
ComesTo text (Ok journal) = (read : Read) × IsRead LARGEST text (Ok read) × IsJournalOf journal read
ComesTo text (Err (Fault fault)) = IsRead LARGEST text (Err fault)
ComesTo text (Err NoMemory) = Unit {0}
