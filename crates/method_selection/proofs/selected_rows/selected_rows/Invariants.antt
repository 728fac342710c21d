use Rattle.method_selection.proofs.RowLaws.{FirstHaveRows}
use Rattle.method_selection.proofs.selected_rows.selected_rows.Given as goal

abbrev pub invariant-loop-class : goal.invariant-loop-class
invariant-loop-class l = FirstHaveRows l.lookup l.numbers.numbers.items l.order l.class-index l.rows.items
