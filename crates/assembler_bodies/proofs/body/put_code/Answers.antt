use Rattle.std.proofs.Common.{◌≡◌, ℕ, ◌++◌, length, subst, arith, rules}
use Rattle.code_write.specs.Instruction.{IsInRange, instruction_bytes}
use Rattle.assembler_bodies.proofs.RangeLaws.{code_put, code_out}
use Rattle.assembler_bodies.proofs.body.put_code.Goals as goal

pub returns-in-Ok-2-clause-gives : goal.returns-in-Ok-2-clause-gives
returns-in-Ok-2-clause-gives c =
    let code = c.args.code.now.items in
    let same : c.len-at.result ≡ length code = omega arith in
    let P : ℕ → Type 0 = λ at. IsInRange at c.args.written.now.operands in
    let Q : ℕ → Type 0 = λ at. c.put_instruction.new.out.items ≡ code ++ instruction_bytes at c.args.written.now in
    code_put c.args.written.now code c.put_instruction.new.out.items (subst P same c.in-Ok-2.ensures.in_range) (subst Q same c.in-Ok-2.ensures.ok) (omega arith)

pub returns-in-Err-OutOfRange-clause-gives : goal.returns-in-Err-OutOfRange-clause-gives
returns-in-Err-OutOfRange-clause-gives c =
    let same : c.len-at.result ≡ length c.args.code.now.items = omega arith in
    let P : ℕ → Type 0 = λ at. ¬ IsInRange at c.args.written.now.operands in
    code_out c.args.written.now c.args.code.now.items (subst P same (c.in-Err-OutOfRange.ensures.out_of_range.0 (search rules)))
