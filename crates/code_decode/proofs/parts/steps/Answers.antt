use Rattle.std.proofs.Common.{inr}
use Rattle.code_decode.proofs.PartLaws.{steps_read, steps_faulty}
use Rattle.code_decode.proofs.parts.steps.Goals as goal

pub returns-in-Ok : goal.returns-in-Ok
returns-in-Ok c = steps_read c.args.pool.now c.args.code.now c.in-Ok.steps c.in-Ok.ensures.found c.in-Ok.ensures.only c.in-Ok.ensures.first

pub returns-in-Err-Fault : goal.returns-in-Err-Fault
returns-in-Err-Fault c =
    let told = rw c.in-Err-Fault.field-0-is at c.in-Err-Fault.ensures in
    rw c.fault_refusal.ensures (inr (steps_faulty c.args.pool.now c.args.code.now c.in-Err-Fault.fault told.exact told.only told.first))
