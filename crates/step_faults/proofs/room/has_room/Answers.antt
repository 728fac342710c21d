use Rattle.std.proofs.Common.{arith}
use Rattle.step_faults.proofs.room.has_room.Goals as goal

pub returns : goal.returns
returns g c = λ at f fits.
    let put = c.words_put.ensures at f c.args.left fits in
    let limit = c.max_stack.ensures in
    grind (arith, put, limit)
