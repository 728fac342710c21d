use Rattle.std.proofs.Common.{◌≡◌, take}
use Rattle.type_rules.specs.Environments.{words_of_values}
use Rattle.linked_methods.proofs.words.words_of_values.Given as goal

abbrev pub invariant-loop-value : goal.invariant-loop-value
invariant-loop-value l = l.words.items ≡ words_of_values (take l.value-index l.values)
