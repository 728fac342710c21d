use Rattle.std.proofs.Common.{inr}
use Rattle.code_decode.proofs.PartLaws.{frames_read, frames_bad}
use Rattle.code_decode.proofs.parts.frames.Goals as goal

pub returns-in-Ok : goal.returns-in-Ok
returns-in-Ok c = frames_read c.args.pool.now c.args.steps.now c.args.entry c.args.maps.now c.in-Ok.frames c.in-Ok.ensures.found c.in-Ok.ensures.only c.in-Ok.ensures.first

pub returns-in-Err-Frame : goal.returns-in-Err-Frame
returns-in-Err-Frame c =
    let told = rw c.in-Err-Frame.field-0-is at c.in-Err-Frame.ensures in
    inr (frames_bad c.args.pool.now c.args.steps.now c.args.entry c.args.maps.now c.in-Err-Frame.number told.exact told.only told.first)
