use Rattle.std.proofs.Common.{arith}
use Rattle.transitive_closure.proofs.Ways.{one_more, closed_at_first, closed_at_last}
use Rattle.transitive_closure.proofs.closing.close.Goals as goal

pub loop-middle-init : goal.loop-middle-init
loop-middle-init c = record { table = c.requires; closed = closed_at_first c.args.rows.now }

pub loop-middle-preserved : goal.loop-middle-preserved
loop-middle-preserved c = record {
  table = c.in_ok-pass.ensures.table;
  closed = one_more _ _ _ _ c.loop-middle.invariant.closed c.in_ok-pass.ensures.related;
}

pub returns-clause-closed : goal.returns-clause-closed
returns-clause-closed c = closed_at_last _ _ _ (omega arith) c.loop-middle.invariant.closed
