use Rattle.std.proofs.Common.{arith}
use Rattle.code_steps.proofs.LayoutLaws.{reached_more, reads_inside}
use Rattle.code_steps.proofs.reading.instructions.Goals as goal

pub overflow_sub-next : goal.overflow_sub-next
overflow_sub-next c =
    let less = reads_inside c.args.pool.now c.args.code.now c.loop-cursor.steps c.loop-cursor.offsets c.loop-cursor.cursor c.in_ok-what.what c.instruction.new.cursor (λ i. omega (arith, c.type_inv.code i)) c.loop-cursor.invariant (rw c.len.ensures at c.in_ok-what.ensures) in
    omega (arith, less, c.len-in-loop-cursor.ensures, c.loop-cursor.invariant.here.sum)

pub loop-cursor-smaller : goal.loop-cursor-smaller
loop-cursor-smaller c =
    reads_inside c.args.pool.now c.args.code.now c.loop-cursor.steps c.loop-cursor.offsets c.loop-cursor.cursor c.in_ok-what.what c.instruction.new.cursor (λ i. omega (arith, c.type_inv.code i)) c.loop-cursor.invariant (rw c.len.ensures at c.in_ok-what.ensures)

pub loop-cursor-preserved : goal.loop-cursor-preserved
loop-cursor-preserved c =
    rw (c.in_ok-push-2.ensures.ok, c.in_ok-push.ensures.ok, c.len.ensures, c.len-in-loop-cursor.ensures)
    (reached_more c.args.pool.now c.args.code.now c.loop-cursor.steps c.loop-cursor.offsets c.loop-cursor.cursor c.in_ok-what.what c.instruction.new.cursor (λ i. omega (arith, c.type_inv.code i)) c.loop-cursor.invariant (rw c.len.ensures at c.in_ok-what.ensures))
