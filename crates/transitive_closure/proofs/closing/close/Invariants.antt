use Rattle.transitive_closure.specs.Relation.{IsTable}
use Rattle.transitive_closure.proofs.Ways.{IsClosedBelow}
use Rattle.transitive_closure.proofs.closing.close.Given as goal

abbrev pub invariant-loop-middle : goal.invariant-loop-middle
invariant-loop-middle l = record {
  table : IsTable l.rows;
  closed : IsClosedBelow l.fn.rows l.middle l.rows;
}
