use Rattle.std.proofs.Common.{◌≡◌, take, codes, option_copied}
use Rattle.class_read.specs.AttributeRules.{code_attribute_rules, is_earlier, named}
use Rattle.rules.specs.Rules.{HoldBelow}
use Rattle.class_read.proofs.attributes.stack_map.Given as goal

abbrev pub invariant-loop-attribute : goal.invariant-loop-attribute
invariant-loop-attribute l = record {
  below : HoldBelow (λ i a. code_attribute_rules l.pool l.at (is_earlier l.pool (codes "StackMapTable") l.attributes i) a) l.attributes l.attribute-index;
  found : option_copied l.found ≡ named l.pool (codes "StackMapTable") (take l.attribute-index l.attributes);
}
