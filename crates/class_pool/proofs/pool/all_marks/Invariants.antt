use Rattle.class_pool.proofs.PoolMarkLaws.{AreMarksBelow}
use Rattle.class_pool.proofs.pool.all_marks.Given as goal

abbrev pub invariant-loop-constant : goal.invariant-loop-constant
invariant-loop-constant l = AreMarksBelow l.pool l.role l.constant-index l.marks.items
