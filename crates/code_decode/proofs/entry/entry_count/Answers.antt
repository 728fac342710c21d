use Rattle.code_decode.proofs.MethodLaws.{with_size, without_size}
use Rattle.code_decode.proofs.entry.entry_count.Goals as goal

pub returns : goal.returns
returns c =
    rw (c.receiver_count.ensures, c.from.ensures) (with_size c.args.pool.now c.args.method.now c.in-Some.text c.in-Some-parameters.size c.in-Some.ensures c.in-Some-parameters.is)

pub unreachable-requires-in_default-parameters : goal.unreachable-requires-in_default-parameters
unreachable-requires-in_default-parameters c = without_size c.args.pool.now c.args.method.now c.in-Some.text c.requires c.in-Some.ensures c.in_default-parameters.is
