use Rattle.std.proofs.Common.{◌≡◌, length}
use Rattle.class_relations.proofs.MarkLaws.{IsSoFar}
use Rattle.class_relations.proofs.marks.relate_order.Given as goal

abbrev pub invariant-loop-number : goal.invariant-loop-number
invariant-loop-number l = record {
  size : length l.relation ≡ length l.fn.relation;
  so_far : IsSoFar l.fn.relation l.class l.number l.order l.relation;
}
