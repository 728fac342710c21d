use Rattle.std.proofs.Common.{◌∙◌}
use Rattle.machine_tables.proofs.threads.Threads.grow.Goals as goal

pub returns-in_err-add_place-clause-seats : goal.returns-in_err-add_place-clause-seats
returns-in_err-add_place-clause-seats g c = c.add_place.ensures.seats ∙ c.loop.invariant.seats
