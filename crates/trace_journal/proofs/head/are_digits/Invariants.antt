use Rattle.std.proofs.Common.{◌≡◌, drop}
use Rattle.decimal_numbers.specs.Numbers.{are_digits}
use Rattle.trace_journal.proofs.head.are_digits.Given as goal

abbrev pub invariant-loop-byte : goal.invariant-loop-byte
invariant-loop-byte l = record {
  left : are_digits l.bytes ≡ are_digits (drop l.byte-index l.bytes);
}
