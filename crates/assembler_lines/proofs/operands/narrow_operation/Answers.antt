use Rattle.std.proofs.lemmas.Result.{err_from_is_err_and}
use Rattle.instructions.specs.Table.{shown_row}
use Rattle.assembler_lines.proofs.OperationLaws.{narrow_refuses, narrow_gives}
use Rattle.assembler_lines.proofs.operands.narrow_operation.Goals as goal

pub returns-in_err-operands : goal.returns-in_err-operands
returns-in_err-operands c =
    let p = err_from_is_err_and c.from_residual.result c.from_residual.ensures.1 in
    rw (p.1, p.2) (narrow_refuses (shown_row c.args.row) c.args.words.now c.in_err-operands.field-0.0 c.in_err-operands.ensures)

pub returns : goal.returns
returns c = narrow_gives (shown_row c.args.row) c.args.words.now c.in_ok-operands.operands c.in_ok-operands.ensures
