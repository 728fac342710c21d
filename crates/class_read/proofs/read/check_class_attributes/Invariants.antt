use Rattle.class_read.specs.ClassRules.{class_attribute_rules}
use Rattle.rules.specs.Rules.{HoldBelow}
use Rattle.class_read.proofs.read.check_class_attributes.Given as goal

abbrev pub invariant-loop-attribute : goal.invariant-loop-attribute
invariant-loop-attribute l = HoldBelow (class_attribute_rules l.pool) l.attributes l.attribute-index
