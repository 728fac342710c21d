use Rattle.std.proofs.Common.{filter_map}
use Rattle.link_rules.specs.Descriptors.{class_of_kind}
use Rattle.named_types.specs.declared.others.ClassNames.{ClassNames}
use Rattle.named_types.specs.Others.{HasMore}
use Rattle.named_types.proofs.pool_names.add_kinds.Given as goal

abbrev pub invariant-loop-kind : goal.invariant-loop-kind
invariant-loop-kind l = (last : ClassNames) → HasMore l.names last (filter_map class_of_kind l.kind-iterator) → HasMore l.fn.names last (filter_map class_of_kind l.fn.kinds)
