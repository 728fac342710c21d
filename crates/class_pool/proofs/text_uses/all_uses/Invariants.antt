use Rattle.class_pool.proofs.UseLaws.{AreUsesTo}
use Rattle.class_pool.proofs.text_uses.all_uses.Given as goal

abbrev pub invariant-loop-constant : goal.invariant-loop-constant
invariant-loop-constant l = AreUsesTo l.pool l.constant-index l.uses.items
