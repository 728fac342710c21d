use Rattle.std.proofs.Common.{Some, ap, ◌∙◌}
use Rattle.op_core.specs.OrdinaryState.{set_at}
use Rattle.machine_tables.proofs.TableLemmas.{seats_set}
use Rattle.machine_tables.proofs.threads.Threads.insert.Goals as goal

pub returns-clause-ok : goal.returns-clause-ok
returns-clause-ok g c =
    seats_set c.grow.new.self.seats.items c.args.thread (Some c.args.seat) c.requires c.ranges.thread.fits c.in_ok-grow.ensures.place
    ∙ ap (λ f. set_at f c.args.thread (Some c.args.seat)) c.grow.ensures.seats
