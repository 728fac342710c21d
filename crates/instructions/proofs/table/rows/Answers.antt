use Rattle.std.proofs.Common.{rules}
use Rattle.instructions.specs.Table.{table, numbered_rows}
use Rattle.instructions.proofs.table.rows.Goals as goal

pub returns : goal.returns
unfolding numbered_rows table
returns c = search rules
