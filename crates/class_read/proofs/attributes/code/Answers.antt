use Rattle.std.proofs.Common.{arith}
use Rattle.class_read.proofs.PlaceLaws.{begins_inside}
use Rattle.class_read.proofs.attributes.code.Goals as goal

pub kept_code-requires : goal.kept_code-requires
kept_code-requires c =
    let spelled = rw c.as_slice.ensures at c.in-Ok.ensures.found in
    λ i a at.
    let inside = begins_inside c.args.attribute.now.content c.in-Ok.raw spelled i a at in
    let below = c.requires in
    omega arith
