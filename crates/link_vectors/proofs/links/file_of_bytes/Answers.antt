use Rattle.std.proofs.Common.{arith}
use Rattle.link_vectors.proofs.links.file_of_bytes.Goals as goal

pub returns-in-Ok : goal.returns-in-Ok
returns-in-Ok c = (c.args.bytes.now, λ i. omega (arith, c.type_inv.bytes i), c.in-Ok.ensures.found)
