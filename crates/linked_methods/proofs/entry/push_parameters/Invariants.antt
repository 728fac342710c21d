use Rattle.std.proofs.Common.{◌≡◌, ◌++◌, map, take}
use Rattle.type_rules.specs.Environment.{type_of_value}
use Rattle.linked_methods.proofs.entry.push_parameters.Given as goal

abbrev pub invariant-loop-parameter : goal.invariant-loop-parameter
invariant-loop-parameter l = l.values.items ≡ l.fn.values.items ++ map type_of_value (take l.parameter-index l.parameters)
