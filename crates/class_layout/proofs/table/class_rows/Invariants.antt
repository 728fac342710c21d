use Rattle.class_layout.proofs.RowLaws.{FirstHaveRows}
use Rattle.class_layout.proofs.table.class_rows.Given as goal

abbrev pub invariant-loop-class : goal.invariant-loop-class
invariant-loop-class l = FirstHaveRows l.supers l.order l.class-index l.rows.items
