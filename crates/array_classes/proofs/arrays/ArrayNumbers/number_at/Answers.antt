use Rattle.std.proofs.Common.{sym, ◌∙◌, ◌+◌, ◌<◌}
use Rattle.array_classes.proofs.Known.{number_none, number_some, some_where}
use Rattle.array_classes.proofs.arrays.ArrayNumbers.number_at.Goals as goal

pub returns-in_err-number : goal.returns-in_err-number
returns-in_err-number c = λ us base are at.
    c.from_residual.ensures ∙ sym (number_none us c.args.self.now are c.args.dimensions c.args.place base at (c.in_err-number.ensures are.most are.table_is))

pub returns : goal.returns
returns c = λ us base are at.
    let its = number_some us c.args.self.now are c.args.dimensions c.args.place c.in_ok-number.number base at (c.in_ok-number.ensures are.most are.table_is) in
    some_where c.checked_add.result (c.args.self.now.first + c.in_ok-number.number < 4294967296) (c.args.self.now.first + c.in_ok-number.number) c.checked_add.ensures its.fits ∙ sym its.is
