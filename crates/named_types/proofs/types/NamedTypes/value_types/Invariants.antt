use Rattle.std.proofs.Common.{◌≡◌, ◌++◌, filter_map}
use Rattle.link_rules.specs.Names.{program_names, value_type}
use Rattle.named_types.proofs.types.NamedTypes.value_types.Given as goal

abbrev pub invariant-loop-kind : goal.invariant-loop-kind
invariant-loop-kind l = l.types ++ filter_map (value_type (program_names l.self)) l.kind-iterator ≡ filter_map (value_type (program_names l.self)) l.fn.kinds
