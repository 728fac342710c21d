use Rattle.std.proofs.Common.{◌≡◌, take, map}
use Rattle.class_read.specs.Repeats.{Knows, number_of}
use Rattle.class_read.proofs.repeats.text_numbers.Given as goal

abbrev pub invariant-loop-index : goal.invariant-loop-index
invariant-loop-index l = record {
  known : Knows l.pool l.index l.known;
  numbers : l.numbers.items ≡ map (number_of l.pool) (take l.index l.pool);
}
