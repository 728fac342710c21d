use Rattle.method_selection.proofs.NumberLaws.{ClassesAreNumbered}
use Rattle.method_selection.proofs.numbers.number_methods.Given as goal

abbrev pub invariant-loop-class : goal.invariant-loop-class
invariant-loop-class l = ClassesAreNumbered l.lookup l.class l.numbers.items l.ids.items
