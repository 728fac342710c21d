use Rattle.array_order.proofs.Arrays.{arrays_ordered, arrays_few}
use Rattle.array_order.proofs.arrays_stand_in_order.Goals as goal

pub returns-clause-order : goal.returns-clause-order
returns-clause-order c = λ roots bases most are its. arrays_ordered roots bases most are its

pub returns-clause-few : goal.returns-clause-few
returns-clause-few c = arrays_few
