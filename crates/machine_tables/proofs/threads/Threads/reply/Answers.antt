use Rattle.std.proofs.Common.{subst}
use Rattle.machine_tables.specs.Tables.{AwaitsReply, SeatReplies}
use Rattle.machine_tables.proofs.TableLemmas.{seat_before, seat_related, seat_replaced}
use Rattle.machine_tables.proofs.threads.Threads.reply.Goals as goal

pub reply_at-requires : goal.reply_at-requires
reply_at-requires g c =
    let code = g.C.ThreadCode.code in
    let state = g.C.ThreadCode.state in
    subst (λ x. AwaitsReply code state x c.args.reply)
    (seat_before c.args.self.now.seats.items c.args.thread c.in-Some.place c.index_mut.result.now c.in-Some.ensures c.ranges.thread.fits c.index_mut.ensures.value)
    c.requires

pub returns-in-Some-clause-replies : goal.returns-in-Some-clause-replies
returns-in-Some-clause-replies g c =
    let code = g.C.ThreadCode.code in
    let state = g.C.ThreadCode.state in
    seat_related (SeatReplies code state c.args.reply) c.args.self.now.seats.items c.args.thread c.in-Some.place c.index_mut.result.now c.reply_at.new.place
    c.in-Some.ensures c.ranges.thread.fits c.index_mut.ensures.value c.reply_at.ensures

pub returns-in-Some-clause-others : goal.returns-in-Some-clause-others
returns-in-Some-clause-others g c =
    seat_replaced c.args.self.now.seats.items c.args.thread c.in-Some.place c.reply_at.new.place c.in-Some.ensures c.ranges.thread.fits
