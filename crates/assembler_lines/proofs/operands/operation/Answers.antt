use Rattle.instructions.specs.Table.{shown_row}
use Rattle.assembler_lines.proofs.OperationLaws.{wide_answers, narrow_answers}
use Rattle.assembler_lines.proofs.operands.operation.Goals as goal

pub returns-in-Wide : goal.returns-in-Wide
returns-in-Wide c = wide_answers (shown_row c.args.row) c.args.words.now c.wide_operation.result c.in-Wide.is c.wide_operation.ensures

pub returns-in_default : goal.returns-in_default
returns-in_default c = narrow_answers (shown_row c.args.row) c.args.words.now c.narrow_operation.result c.in_default.not-Wide c.narrow_operation.ensures
