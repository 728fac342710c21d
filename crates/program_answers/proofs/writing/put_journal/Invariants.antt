use Rattle.std.proofs.Common.{◌≡◌, [], length, map, string_bytes}
use Rattle.trace_journal.specs.Text.{ended}
use Rattle.trace_journal.specs.Lines.{lines_left}
use Rattle.program_answers.specs.Output.{journal_pieces}
use Rattle.program_answers.proofs.Pieces.{GainsSoFar}
use Rattle.program_answers.proofs.writing.put_journal.Given as goal

abbrev pub invariant-loop-line : goal.invariant-loop-line
invariant-loop-line g l = record {
  gained : GainsSoFar (g.S.Sink.given l.fn.sink) (g.S.Sink.given l.sink) (map ended (lines_left l.lines)) (journal_pieces l.events l.undos);
  empty : string_bytes l.line ≡ [];
  faults : g.S.Sink.faults l.sink ≡ g.S.Sink.faults l.fn.sink;
}

abbrev pub decreases-loop-line : goal.decreases-loop-line
decreases-loop-line g l = length (lines_left l.lines)
