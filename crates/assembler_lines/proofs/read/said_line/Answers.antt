use Rattle.std.proofs.lemmas.Result.{err_from_is_err_and}
use Rattle.instructions.specs.Table.{shown_row}
use Rattle.assembler_lines.proofs.LineLaws.{no_plain_refuses, operation_refuses, operation_gives, other_answers}
use Rattle.assembler_lines.proofs.read.said_line.Goals as goal

pub returns-in_err-first : goal.returns-in_err-first
returns-in_err-first c =
    let p = err_from_is_err_and c.from_residual.result c.from_residual.ensures.1 in
    rw (p.1, p.2) (no_plain_refuses c.args.words.now c.in_err-first.field-0.0 c.in_err-first.ensures)

pub returns-in_err-operation-in-Some : goal.returns-in_err-operation-in-Some
returns-in_err-operation-in-Some c =
    let p = err_from_is_err_and c.from_residual-in_err-operation-in-Some.result c.from_residual-in_err-operation-in-Some.ensures.1 in
    rw (p.1, p.2) (operation_refuses c.args.words.now (c.in_ok-first.first.now, c.in_ok-first.rest.now) (shown_row c.in-Some.row) c.in_err-operation-in-Some.field-0.0 c.in_ok-first.ensures c.in-Some.ensures c.in_err-operation-in-Some.ensures)

pub returns-in_ok-operation-in-Some : goal.returns-in_ok-operation-in-Some
returns-in_ok-operation-in-Some c =
    operation_gives c.args.words.now (c.in_ok-first.first.now, c.in_ok-first.rest.now) (shown_row c.in-Some.row) c.in_ok-operation-in-Some.operation c.in_ok-first.ensures c.in-Some.ensures c.in_ok-operation-in-Some.ensures

pub returns-in-None : goal.returns-in-None
returns-in-None c = other_answers c.args.words.now c.in_ok-first.rest.now c.in_ok-first.first.now c.other_line.result c.in_ok-first.ensures c.in-None.ensures c.other_line.ensures
