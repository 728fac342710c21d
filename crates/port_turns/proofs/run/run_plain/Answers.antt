use Rattle.std.proofs.Common.{arith}
use Rattle.turn_runs.proofs.KeptLemmas.{counted_within}
use Rattle.port_turns.proofs.run.run_plain.Goals as goal

pub returns-clause-counted : goal.returns-clause-counted
returns-clause-counted g c =
    let (n, left, plain) = c.give_turns.ensures.makes.1 in
    let within = counted_within g.C.ThreadCode.code c.args.ready.now.own.bounds g.P.StepPort.stepped plain.moves _ _ _ _ plain.turns in
    let low = within.0 in
    let high = within.1 in
    let count = plain.count in
    (low, omega (arith, high, count, left))
