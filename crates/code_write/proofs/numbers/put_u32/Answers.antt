use Rattle.std.proofs.Common.{rules}
use Rattle.code_write.specs.Instruction.{Keeps}
use Rattle.code_write.proofs.Kept.{kept_same}
use Rattle.code_write.proofs.numbers.put_u32.Goals as goal

pub returns-in_err-extend_from_slice-clause-err : goal.returns-in_err-extend_from_slice-clause-err
returns-in_err-extend_from_slice-clause-err c =
    let kept : Keeps c.args.out.now.items c.extend_from_slice.new.self.items = kept_same _ _ c.in_err-extend_from_slice.ensures.items in
    search rules
