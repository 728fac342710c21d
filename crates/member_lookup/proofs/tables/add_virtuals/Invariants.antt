use Rattle.std.proofs.Common.{◌≡◌, ◌++◌, take, filter}
use Rattle.member_lookup.specs.Rows.{is_virtual_row}
use Rattle.member_lookup.proofs.tables.add_virtuals.Given as goal

abbrev pub invariant-loop-row : goal.invariant-loop-row
invariant-loop-row l = l.table ≡ l.initial.table ++ filter is_virtual_row (take l.row-index l.rows)
