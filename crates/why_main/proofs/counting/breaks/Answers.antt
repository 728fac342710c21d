use Rattle.std.proofs.Common.{arith}
use Rattle.why_main.proofs.counting.breaks.Goals as goal

pub breaks_code-requires : goal.breaks_code-requires
breaks_code-requires c = (c.args.bytes.now, λ i. omega (arith, c.type_inv.bytes i), c.in-Ok.ensures.found)
