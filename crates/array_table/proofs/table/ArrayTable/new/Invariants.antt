use Rattle.array_table.proofs.Tables.{FirstRows}
use Rattle.array_table.proofs.table.ArrayTable.new.Given as goal

abbrev pub invariant-loop-index : goal.invariant-loop-index
invariant-loop-index l = FirstRows l.most l.index l.places.items l.numbers.items
