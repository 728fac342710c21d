use Rattle.class_walk.proofs.Loop.{SlotsSoFar}
use Rattle.class_walk.proofs.pool.slots.Given as goal

abbrev pub invariant-loop-index : goal.invariant-loop-index
invariant-loop-index l = SlotsSoFar l.count l.fn.cursor l.slots l.due l.index l.cursor
