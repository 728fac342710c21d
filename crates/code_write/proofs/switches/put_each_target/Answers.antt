use Rattle.std.proofs.Common.{rules}
use Rattle.code_write.specs.Instruction.{Keeps}
use Rattle.code_write.proofs.Kept.{kept_behind}
use Rattle.code_write.proofs.switches.put_each_target.Goals as goal

pub returns-in_err-put_far-clause-err : goal.returns-in_err-put_far-clause-err
returns-in_err-put_far-clause-err c =
    let kept : Keeps c.args.out.now.items c.put_far.new.out.items = kept_behind _ _ _ _ c.loop-target.invariant c.in_err-put_far.ensures.err in
    search rules
