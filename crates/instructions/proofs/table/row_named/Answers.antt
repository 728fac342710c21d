use Rattle.std.proofs.Common.{ap, ◌∙◌}
use Rattle.std.specs.Option.{option_map}
use Rattle.instructions.specs.Table.{shown_row}
use Rattle.instructions.proofs.TableLaws.{shown-named}
use Rattle.instructions.proofs.table.row_named.Goals as goal

pub returns : goal.returns
returns c = record { row = ap (option_map shown_row) c.find_named.ensures ∙ shown-named c.rows.result.now c.args.mnemonic.now c.rows.ensures }
