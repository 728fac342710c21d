use Rattle.std.proofs.Common.{◌≡◌, take, sum_by}
use Rattle.link_types.specs.Types.{words_of_value}
use Rattle.named_types.proofs.descriptors.words_of_types.Given as goal

abbrev pub invariant-loop-value : goal.invariant-loop-value
invariant-loop-value l = l.words ≡ sum_by words_of_value (take l.value-index l.types)
