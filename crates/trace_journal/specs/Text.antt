-- The lines of a text, each ended by a byte 10, and the text of a journal.
use Rattle.std.specs.Prelude.{ℕ, ◌==◌, ◌&&◌, ◌+◌, Bool, true, not, List, [], ◌∷◌, ◌++◌, length, map, if◌then◌else◌}
use Rattle.std.specs.List.{concat}
use Rattle.op_core.specs.declared.Event.{Event}
use Rattle.op_core.specs.declared.Undo.{Undo}
use Rattle.trace_journal.specs.declared.item.JournalItem.{JournalItem}
use Rattle.trace_journal.specs.declared.item.JournalItem.TheVariants.{Event as event_item, Undone}
use Rattle.trace_journal.specs.Spelling.{spelled, head_line, end_line}

-- the ended lines of a text, and what comes after the last of them
pub record Lines : Type 0 where
  pub ended : List (List ℕ)
  pub rest : List ℕ

-- one byte more before the first line
abbrev pub before_first : ℕ → List (List ℕ) → List ℕ → Lines
before_first b [] rest = record { ended = []; rest = b ∷ rest }
before_first b (line ∷ lines) rest = record { ended = (b ∷ line) ∷ lines; rest = rest }

abbrev pub onto : ℕ → Lines → Lines
onto b lines = if b == 10 then record { ended = [] ∷ lines.ended; rest = lines.rest } else before_first b lines.ended lines.rest

abbrev pub lines_of : List ℕ → Lines
lines_of [] = record { ended = []; rest = [] }
lines_of (b ∷ text) = onto b (lines_of text)

-- no line ends in these bytes
abbrev pub is_inside : List ℕ → Bool
is_inside [] = true
is_inside (b ∷ bytes) = not (b == 10) && is_inside bytes

abbrev pub ended : List ℕ → List ℕ
ended line = line ++ 10 ∷ []

-- the events of some items
abbrev pub events_in : List JournalItem → List Event
events_in [] = []
events_in (event_item e ∷ items) = e ∷ events_in items
events_in (Undone t l k ∷ items) = events_in items

-- the undos of some items, where n events come before
abbrev pub undos_in : ℕ → List JournalItem → List Undo
undos_in n [] = []
undos_in n (event_item e ∷ items) = undos_in (n + 1) items
undos_in n (Undone t l words ∷ items) = record { after = n; thread = t; level = l; words = words } ∷ undos_in n items

-- the number of the line of each event, where the first item is in line n
abbrev pub places_in : ℕ → List JournalItem → List ℕ
places_in n [] = []
places_in n (event_item e ∷ items) = n ∷ places_in (n + 1) items
places_in n (Undone t l k ∷ items) = places_in (n + 1) items

-- the undos that come first, after n events, and then what comes of the others
abbrev pub undos_first : (List Undo → List JournalItem) → ℕ → List Undo → List JournalItem
undos_first rest n [] = rest []
undos_first rest n (u ∷ undos) = if u.after == n then Undone u.thread u.level u.words ∷ undos_first rest n undos else rest (u ∷ undos)

-- the items of events and undos: each undo before the event whose number it has; n events come before
abbrev pub merged : ℕ → List Event → List Undo → List JournalItem
merged n [] undos = undos_first (λ _. []) n undos
merged n (e ∷ events) undos = undos_first (λ others. event_item e ∷ merged (n + 1) events others) n undos

-- the text of a journal, line by line
abbrev pub text_lines : ℕ → List JournalItem → List (List ℕ)
text_lines version items = head_line version ∷ map spelled items ++ end_line (length (events_in items)) ∷ []

abbrev pub text_of : ℕ → List JournalItem → List ℕ
text_of version items = concat (map ended (text_lines version items))

-- the lines of items
abbrev pub lines_with : List JournalItem → List ℕ
lines_with items = concat (map ended (map spelled items))
