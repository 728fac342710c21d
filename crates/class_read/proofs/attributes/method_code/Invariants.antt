use Rattle.std.proofs.Common.{◌≡◌, take, codes, is_some}
use Rattle.std.specs.Option.{option_and_then}
use Rattle.class_read.specs.AttributeRules.{method_attribute_rules, is_earlier, named, code_in}
use Rattle.rules.specs.Rules.{HoldBelow}
use Rattle.class_read.proofs.attributes.method_code.Given as goal

abbrev pub invariant-loop-attribute : goal.invariant-loop-attribute
invariant-loop-attribute l = record {
  below : HoldBelow (λ i a. method_attribute_rules l.pool (is_earlier l.pool (codes "Code") l.method.attributes i) a) l.method.attributes l.attribute-index;
  code : l.code ≡ option_and_then (code_in l.pool) (named l.pool (codes "Code") (take l.attribute-index l.method.attributes));
  found : is_some l.code ≡ is_some (named l.pool (codes "Code") (take l.attribute-index l.method.attributes));
}
