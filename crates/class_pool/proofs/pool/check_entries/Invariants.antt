use Rattle.class_pool.specs.PoolRules.{entry_rules}
use Rattle.rules.specs.Rules.{HoldBelow}
use Rattle.class_pool.proofs.pool.check_entries.Given as goal

abbrev pub invariant-loop-index : goal.invariant-loop-index
invariant-loop-index l = HoldBelow (entry_rules l.pool) l.pool l.index
