use Rattle.std.proofs.Common.{◌≡◌, ◌≤◌, drop}
use Rattle.decimal_numbers.proofs.NumberLaws.{left_value}
use Rattle.decimal_numbers.proofs.number.digits_up_to.Given as goal

abbrev pub invariant-loop-byte : goal.invariant-loop-byte
invariant-loop-byte l = record {
  fits : l.value ≤ l.limit;
  left : left_value l.limit l.value (drop l.byte-index l.bytes) ≡ left_value l.limit 0 l.bytes;
}
