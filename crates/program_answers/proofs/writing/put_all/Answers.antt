use Rattle.std.proofs.Common.{◌∙◌}
use Rattle.jr_ports.proofs.Gained.{OnErr-any}
use Rattle.program_answers.proofs.Pieces.{GainsPart-more}
use Rattle.program_answers.proofs.writing.put_all.Goals as goal

pub returns-in_err-put-clause-err : goal.returns-in_err-put-clause-err
returns-in_err-put-clause-err g c =
    OnErr-any _ _ (GainsPart-more (g.S.Sink.given c.args.sink.now) (g.S.Sink.given c.loop-piece.sink) (g.S.Sink.given c.put.new.self) c.args.pieces.now c.loop-piece.piece-index
    c.as_slice.result.now c.piece-item.result c.loop-piece-test.true (c.as_slice.ensures ∙ c.piece-item.is) c.loop-piece.invariant.gained c.in_err-put.ensures.err)
