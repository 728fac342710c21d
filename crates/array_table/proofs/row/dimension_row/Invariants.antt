use Rattle.array_table.proofs.Rows.{FirstInRow}
use Rattle.array_table.proofs.row.dimension_row.Given as goal

abbrev pub invariant-loop-base : goal.invariant-loop-base
invariant-loop-base l = FirstInRow l.fn.places.items l.dimensions l.most l.base l.places.items l.row.items
