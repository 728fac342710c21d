use Rattle.machine_tables.specs.Tables.{seat_at}
use Rattle.machine_state.proofs.ChangeLemmas.{thread_changed, begun_seat}
use Rattle.machine_state.proofs.MachineLemmas.{with_threads}
use Rattle.machine_state.proofs.state.MachineState.put_thread.Goals as goal

pub returns : goal.returns
returns g c =
    let state = g.C.ThreadCode.state in
    let now = c.args.self.now in
    let new = c.set_standing.new.self in
    let begun = begun_seat state (seat_at now.threads c.args.thread) c.requires in
    with_threads state now new (thread_changed state (seat_at now.threads) (seat_at new) c.args.thread c.args.silent c.args.standing begun c.set_standing.ensures.there)
