use Rattle.std.proofs.Common.{ap, ◌∙◌}
use Rattle.std.specs.Prelude.{slice_get}
use Rattle.std.specs.Option.{option_map, option_flatten}
use Rattle.instructions.specs.Table.{shown_row}
use Rattle.instructions.proofs.TableLaws.{shown-at}
use Rattle.instructions.proofs.table.row.Goals as goal

pub returns : goal.returns
returns c = record {
  row =
      ap (option_map shown_row) c.at.ensures
      ∙ ap (λ n. option_map shown_row (option_flatten (slice_get c.rows.result.now n))) c.from.ensures
      ∙ shown-at c.rows.result.now c.args.number c.rows.ensures;
}
