use Rattle.std.proofs.Common.{◌≡◌, take, map}
use Rattle.class_read.specs.MemberRules.{field_rules, field_of}
use Rattle.rules.specs.Rules.{HoldBelow}
use Rattle.class_read.proofs.members.fields.Given as goal

abbrev pub invariant-loop-index : goal.invariant-loop-index
invariant-loop-index l = record {
  below : HoldBelow (field_rules l.pool l.is_interface l.members) l.members l.index;
  fields : l.fields ≡ map (field_of l.pool) (take l.index l.members);
}
