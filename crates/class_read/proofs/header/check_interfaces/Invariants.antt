use Rattle.class_read.specs.ClassRules.{interface_rules}
use Rattle.rules.specs.Rules.{HoldBelow}
use Rattle.class_read.proofs.header.check_interfaces.Given as goal

abbrev pub invariant-loop-index : goal.invariant-loop-index
invariant-loop-index l = HoldBelow (interface_rules l.pool) l.interfaces l.index-index
