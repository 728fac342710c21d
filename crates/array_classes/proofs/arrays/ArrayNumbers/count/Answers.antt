use Rattle.std.proofs.Common.{arith}
use Rattle.array_classes.proofs.Few.{count_few}
use Rattle.array_classes.proofs.Known.{how_many}
use Rattle.array_classes.proofs.arrays.ArrayNumbers.count.Goals as goal

pub returns-clause-value : goal.returns-clause-value
returns-clause-value c = λ us are.
    let many = how_many us c.args.self.now.order are.most are.order_is are.most_is in
    omega (arith, are.count_is, are.first_is, are.table_is.how_many, many)

pub returns-clause-few : goal.returns-clause-few
returns-clause-few c = λ us are. count_few us c.args.self.now are
