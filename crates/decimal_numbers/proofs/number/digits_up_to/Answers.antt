use Rattle.std.proofs.Common.{◌≡◌, ◌∙◌, ◌<◌, ◌+◌, ◌-◌, ◌*◌, true, get_or, drop, sym, arith, rules}
use Rattle.decimal_numbers.specs.Numbers.{is_digit}
use Rattle.decimal_numbers.proofs.NumberLaws.{value_more, value_large}
use Rattle.decimal_numbers.proofs.number.digits_up_to.Goals as goal

pub returns-then-value-from-clause-value : goal.returns-then-value-from-clause-value
returns-then-value-from-clause-value c =
    let bytes = c.args.bytes.now in
    let i = c.loop-byte.byte-index in
    let value = c.loop-byte.value in
    let digit : is_digit (get_or bytes i 0) ≡ true = search rules in
    let large : c.args.limit < value * 10 + (get_or bytes i 0 - 48) = omega arith in
    sym (sym c.loop-byte.invariant.left ∙ (value_more c.args.limit value bytes i c.loop-byte-test.true digit ∙ value_large c.args.limit (value * 10 + (get_or bytes i 0 - 48)) (drop (i + 1) bytes) large))
