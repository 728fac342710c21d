use Rattle.std.proofs.Common.{◌≡◌, replicate}
use Rattle.class_layout.specs.Rows.{empty_row}
use Rattle.class_layout.proofs.table.empty_rows.Given as goal

abbrev pub invariant-loop : goal.invariant-loop
invariant-loop l = l.rows.items ≡ replicate l.counter empty_row
