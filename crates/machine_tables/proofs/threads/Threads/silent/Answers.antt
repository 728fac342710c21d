use Rattle.std.proofs.Common.{sym, subst}
use Rattle.machine_tables.specs.Tables.{SeatOverflows}
use Rattle.machine_tables.proofs.TableLemmas.{seat_before, seat_replaced}
use Rattle.machine_tables.proofs.threads.Threads.silent.Goals as goal

pub returns-in-Some-clause-others : goal.returns-in-Some-clause-others
returns-in-Some-clause-others g c made =
    seat_replaced c.args.self.now.seats.items c.args.thread c.in-Some.place c.silent_at.new.place c.in-Some.ensures c.ranges.thread.fits

pub returns-in-Some-clause-frames : goal.returns-in-Some-clause-frames
returns-in-Some-clause-frames g c stopped =
    subst (SeatOverflows g.C.ThreadCode.code g.C.ThreadCode.state)
    (sym (seat_before c.args.self.now.seats.items c.args.thread c.in-Some.place c.index_mut.result.now c.in-Some.ensures c.ranges.thread.fits c.index_mut.ensures.value))
    (c.silent_at.ensures.frames stopped)
