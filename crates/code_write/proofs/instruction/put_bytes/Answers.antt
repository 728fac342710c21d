use Rattle.std.proofs.Common.{rules}
use Rattle.code_write.specs.Instruction.{Keeps}
use Rattle.code_write.proofs.Kept.{kept_behind}
use Rattle.code_write.proofs.instruction.put_bytes.Goals as goal

pub returns-in_err-put_operands-clause-err : goal.returns-in_err-put_operands-clause-err
returns-in_err-put_operands-clause-err c =
    let pushed : Keeps c.put_wide.new.out.items c.put_operands.new.out.items = kept_behind _ _ _ _ c.in_ok-push.ensures.items c.in_err-put_operands.ensures.err in
    let kept : Keeps c.args.out.now.items c.put_operands.new.out.items = kept_behind _ _ _ _ c.in_ok-put_wide.ensures.ok pushed in
    search rules
