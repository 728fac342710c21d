use Rattle.std.proofs.Common.{◌∙◌, ap}
use Rattle.operand_table.specs.Table.{kept_operand}
use Rattle.operand_table.proofs.TableLaws.{operand_is}
use Rattle.operand_table.proofs.table.OperandTable.operand.Goals as goal

pub returns : goal.returns
returns c = λ us are.
    c.operand_in.ensures ∙ ap (λ rows. kept_operand rows c.args.file c.args.index) c.deref.ensures.value
    ∙ operand_is us c.args.self.now c.args.file c.args.index are
