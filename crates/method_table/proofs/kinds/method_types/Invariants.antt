use Rattle.std.proofs.Common.{◌≡◌, map, take}
use Rattle.link_rules.specs.Names.{program_names}
use Rattle.named_types.specs.Methods.{method_type}
use Rattle.method_table.proofs.kinds.method_types.Given as goal

abbrev pub invariant-loop-text : goal.invariant-loop-text
invariant-loop-text l = l.kinds.items ≡ map (λ t. method_type (program_names l.types) t.now) (take l.text-index l.text-items)
