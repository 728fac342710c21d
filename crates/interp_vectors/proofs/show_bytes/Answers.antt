use Rattle.std.proofs.Common.{arith}
use Rattle.interp_vectors.proofs.show_bytes.Goals as goal

pub show_methods-requires : goal.show_methods-requires
show_methods-requires g c = (c.args.bytes.now, λ i. omega (arith, c.type_inv.bytes i), c.in-Ok.ensures.found)
