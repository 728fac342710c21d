use Rattle.std.proofs.Common.{refl, Some}
use Rattle.machine_tables.specs.Tables.{standing_at}
use Rattle.machine_tables.proofs.TableLemmas.{seat_changed, seat_kept}
use Rattle.machine_tables.proofs.threads.Threads.set_standing.Goals as goal

pub returns-in-Some-clause-there : goal.returns-in-Some-clause-there
returns-in-Some-clause-there g c x is =
    seat_changed c.args.self.now.seats.items c.args.thread c.in-Some.place c.index_mut.result.now c.stand_at.new.place (Some x) (standing_at c.args.standing c.args.silent)
    c.in-Some.ensures c.ranges.thread.fits c.index_mut.ensures.value c.stand_at.ensures is

pub returns-in-Some-clause-absent : goal.returns-in-Some-clause-absent
returns-in-Some-clause-absent g c is =
    seat_kept c.args.self.now.seats.items c.args.thread c.in-Some.place c.index_mut.result.now c.stand_at.new.place (standing_at c.args.standing c.args.silent)
    c.in-Some.ensures c.ranges.thread.fits c.index_mut.ensures.value c.stand_at.ensures refl is
