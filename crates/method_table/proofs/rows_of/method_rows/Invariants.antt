use Rattle.std.proofs.Common.{◌≡◌, map, take}
use Rattle.method_table.specs.Rows.{method_row}
use Rattle.method_table.proofs.rows_of.method_rows.Given as goal

abbrev pub invariant-loop-member : goal.invariant-loop-member
invariant-loop-member l = l.rows.items ≡ map method_row (take l.member-index l.members)
