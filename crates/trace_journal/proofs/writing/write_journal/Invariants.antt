use Rattle.std.proofs.Common.{◌≡◌, ◌++◌, length, map, string_bytes}
use Rattle.std.specs.List.{concat}
use Rattle.trace_journal.specs.Text.{ended, merged, text_of}
use Rattle.trace_journal.specs.Lines.{lines_left}
use Rattle.trace_journal.proofs.writing.write_journal.Given as goal

abbrev pub invariant-loop-text : goal.invariant-loop-text
invariant-loop-text l = string_bytes l.text ++ concat (map ended (lines_left l.lines)) ≡ text_of 2 (merged 0 l.events l.undos)

abbrev pub decreases-loop-text : goal.decreases-loop-text
decreases-loop-text l = length (lines_left l.lines)
