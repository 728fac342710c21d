use Rattle.std.proofs.Common.{◌≡◌, take, map}
use Rattle.class_read.specs.MemberRules.{method_rules, method_of}
use Rattle.rules.specs.Rules.{HoldBelow}
use Rattle.class_read.proofs.members.methods.Given as goal

abbrev pub invariant-loop-index : goal.invariant-loop-index
invariant-loop-index l = record {
  below : HoldBelow (method_rules l.pool l.members) l.members l.index;
  methods : l.methods ≡ map (method_of l.pool) (take l.index l.members);
}
