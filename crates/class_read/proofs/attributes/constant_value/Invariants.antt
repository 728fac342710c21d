use Rattle.std.proofs.Common.{◌≡◌, take, codes, option_copied}
use Rattle.class_read.specs.AttributeRules.{field_attribute_rules, is_earlier, named}
use Rattle.rules.specs.Rules.{HoldBelow}
use Rattle.class_read.proofs.attributes.constant_value.Given as goal

abbrev pub invariant-loop-attribute : goal.invariant-loop-attribute
invariant-loop-attribute l = record {
  below : HoldBelow (λ i a. field_attribute_rules l.pool l.field (is_earlier l.pool (codes "ConstantValue") l.field.attributes i) a) l.field.attributes l.attribute-index;
  found : option_copied l.found ≡ named l.pool (codes "ConstantValue") (take l.attribute-index l.field.attributes);
}
