use Rattle.machine_tables.specs.Tables.{seat_at}
use Rattle.machine_state.proofs.ChangeLemmas.{replied, awaits_seat}
use Rattle.machine_state.proofs.MachineLemmas.{with_threads}
use Rattle.machine_state.proofs.state.MachineState.reply_to.Goals as goal

pub reply-requires : goal.reply-requires
reply-requires g c =
    awaits_seat g.C.ThreadCode.code g.C.ThreadCode.state c.args.reply (seat_at c.args.self.now.threads c.args.thread) c.requires.place c.requires.begun c.requires.fits

pub returns : goal.returns
returns g c l is =
    let state = g.C.ThreadCode.state in
    let now = c.args.self.now in
    let new = c.reply.new.self in
    with_threads state now new (replied g.C.ThreadCode.code state c.args.reply (seat_at now.threads) (seat_at new) c.args.thread l c.reply.ensures.replies c.reply.ensures.others is)
