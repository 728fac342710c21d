-- The lines of a journal that are still to be made.
use Rattle.std.specs.Prelude.{◌≡◌, ℕ, ◌==◌, Bool, false, Option, None, Some, List, [], ◌∷◌, ◌++◌, length, map, drop, slice_get}
use Rattle.op_core.specs.declared.Event.{Event}
use Rattle.op_core.specs.declared.Undo.{Undo}
use Rattle.trace_journal.specs.declared.place.JournalLines.{JournalLines}
use Rattle.trace_journal.specs.declared.place.Place.{Place}
use Rattle.trace_journal.specs.declared.place.Place.TheVariants.{Head, Inside, Over}
use Rattle.trace_journal.specs.Spelling.{spelled, end_line}
use Rattle.trace_journal.specs.Text.{merged, text_lines}

-- the undo has the number of the next event
abbrev pub has_number : Option Undo → ℕ → Bool
has_number None event = false
has_number (Some undo) event = undo.after == event

-- the next undo comes before the next event
abbrev pub is_undo_due : List Undo → ℕ → ℕ → Bool
is_undo_due undos undo event = has_number (slice_get undos undo) event

-- the lines from a place on, after some events and undos
abbrev pub lines_from : List Event → List Undo → Place → ℕ → ℕ → List (List ℕ)
lines_from events undos Head event undo = text_lines 2 (merged 0 events undos)
lines_from events undos Inside event undo = map spelled (merged event (drop event events) (drop undo undos)) ++ end_line (length events) ∷ []
lines_from events undos Over event undo = []

abbrev pub lines_left : JournalLines → List (List ℕ)
lines_left lines = lines_from lines.events.now lines.undos.now lines.place lines.event lines.undo

-- a line is still to be made
abbrev pub HasLine : List (List ℕ) → Type 0
HasLine [] = ⊥
HasLine (line ∷ lines) = Unit {0}

-- one line was put at the end of a text, and the others are left
pub record ComesNext (old new : JournalLines) (before after : List ℕ) : Type 0 where
  pub line : List ℕ
  pub left : lines_left old ≡ line ∷ lines_left new
  pub put : after ≡ before ++ line
