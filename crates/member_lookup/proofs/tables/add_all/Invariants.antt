use Rattle.std.proofs.Common.{◌≡◌, ◌++◌, take}
use Rattle.member_lookup.proofs.tables.add_all.Given as goal

abbrev pub invariant-loop-row : goal.invariant-loop-row
invariant-loop-row l = l.table ≡ l.initial.table ++ take l.row-index l.rows
