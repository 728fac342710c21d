use Rattle.std.proofs.Common.{◌≡◌, take}
use Rattle.jr_ports.specs.Stream.{Gains}
use Rattle.program_answers.proofs.writing.put_all.Given as goal

abbrev pub invariant-loop-piece : goal.invariant-loop-piece
invariant-loop-piece g l = record {
  gained : Gains (g.S.Sink.given l.fn.sink) (g.S.Sink.given l.sink) (take l.piece-index l.pieces);
  faults : g.S.Sink.faults l.sink ≡ g.S.Sink.faults l.fn.sink;
}
