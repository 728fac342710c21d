use Rattle.method_selection.proofs.NumberLaws.{FirstAreNumbered}
use Rattle.method_selection.proofs.numbers.number_class.Given as goal

abbrev pub invariant-loop-member : goal.invariant-loop-member
invariant-loop-member l = FirstAreNumbered l.initial.ids.items l.ids.items l.members l.member-index l.row.items
