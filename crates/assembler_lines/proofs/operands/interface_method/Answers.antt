use Rattle.std.proofs.lemmas.Result.{err_from_is_err_and}
use Rattle.assembler_lines.proofs.OperandLaws.{no_member_refuses, no_count_refuses, count_gives}
use Rattle.assembler_lines.proofs.operands.interface_method.Goals as goal

pub returns-in_err-class : goal.returns-in_err-class
returns-in_err-class c =
    let p = err_from_is_err_and c.from_residual.result c.from_residual.ensures.1 in
    rw (p.1, p.2) (no_member_refuses c.args.words.now c.in_err-class.field-0.0 c.in_err-class.ensures)

pub returns-in_err-count : goal.returns-in_err-count
returns-in_err-count c =
    let p = err_from_is_err_and c.from_residual-in_err-count.result c.from_residual-in_err-count.ensures.1 in
    rw (p.1, p.2) (no_count_refuses c.args.words.now (c.in_ok-class.class.now, c.in_ok-class.name.now, c.in_ok-class.descriptor.now) c.in_err-count.field-0.0 c.in_ok-class.ensures c.in_err-count.ensures)

pub returns : goal.returns
returns c =
    rw (c.in_ok-class-2.ensures, c.in_ok-name.ensures, c.in_ok-descriptor.ensures)
    (count_gives c.args.words.now (c.in_ok-class.class.now, c.in_ok-class.name.now, c.in_ok-class.descriptor.now) c.in_ok-count.count c.in_ok-class.ensures c.in_ok-count.ensures)
