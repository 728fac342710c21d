use Rattle.std.proofs.Common.{rules}
use Rattle.code_write.specs.Instruction.{Keeps}
use Rattle.code_write.proofs.Kept.{kept_behind}
use Rattle.code_write.proofs.frames.put_each_type.Goals as goal

pub returns-in_err-put_type-clause-err : goal.returns-in_err-put_type-clause-err
returns-in_err-put_type-clause-err c =
    let kept : Keeps c.args.out.now.items c.put_type.new.out.items = kept_behind _ _ _ _ c.loop-kind.invariant c.in_err-put_type.ensures.err in
    search rules
