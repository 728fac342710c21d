use Rattle.class_read.specs.Repeats.{NoKeyRepeated}
use Rattle.class_read.proofs.KeyLaws.{HasKeysBelow}
use Rattle.class_read.proofs.repeats.first_repeated_key.Given as goal

abbrev pub invariant-loop-index : goal.invariant-loop-index
invariant-loop-index l = record {
  seen : HasKeysBelow l.numbers l.members l.index l.seen;
  none : NoKeyRepeated l.numbers l.members l.index;
}
