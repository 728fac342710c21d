use Rattle.std.proofs.Common.{◌∙◌}
use Rattle.handler_frames.proofs.KnownLaws.{goes_further}
use Rattle.handler_frames.proofs.covering.CoveringHandlers.begin.Goals as goal

pub loop-preserved : goal.loop-preserved
loop-preserved c = record {
  goes = goes_further c.args.self.now c.loop.self c.begin_next.new.self c.args.step c.loop.invariant.goes c.in_ok-begin_next.ensures.goes;
  spans = (c.in_ok-begin_next.ensures.more c.if-branch.true).0 ∙ c.loop.invariant.spans;
}

pub returns-clause-goes : goal.returns-clause-goes
returns-clause-goes c = goes_further c.args.self.now c.loop.self c.begin_next.new.self c.args.step c.loop.invariant.goes c.in_ok-begin_next.ensures.goes
