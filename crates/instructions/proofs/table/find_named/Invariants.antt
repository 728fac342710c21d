use Rattle.std.proofs.Common.{◌≡◌, drop}
use Rattle.instructions.specs.Table.{first_named}
use Rattle.instructions.proofs.table.find_named.Given as goal

abbrev pub invariant-loop-row : goal.invariant-loop-row
invariant-loop-row l = first_named l.mnemonic (drop l.row-index l.rows) ≡ first_named l.mnemonic l.rows
