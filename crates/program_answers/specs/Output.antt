-- The pieces of an output.
use Rattle.std.specs.Prelude.{ℕ, ◌≤◌, List, length, map}
use Rattle.op_core.specs.declared.Event.{Event}
use Rattle.op_core.specs.declared.Undo.{Undo}
use Rattle.trace_journal.specs.Text.{ended, merged, text_lines}
use Rattle.program_answers.specs.declared.output.Pieces.{Pieces}
use Rattle.program_answers.specs.declared.output.Pieces.TheVariants.{Made, Journal}

-- the lines of a journal of version 2, with their ends
abbrev pub journal_pieces : List Event → List Undo → List (List ℕ)
journal_pieces events undos = map ended (text_lines 2 (merged 0 events undos))

abbrev pub pieces_of : Pieces → List (List ℕ)
pieces_of (Made pieces) = pieces
pieces_of (Journal alloc events undos) = journal_pieces events undos

-- there are at most as many events as a journal may have
abbrev pub HasRoom : Pieces → Type 0
HasRoom (Made pieces) = Unit {0}
HasRoom (Journal alloc events undos) = length events ≤ 4194304
