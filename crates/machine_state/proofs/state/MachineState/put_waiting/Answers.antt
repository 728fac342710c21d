use Rattle.machine_tables.specs.Tables.{seat_at}
use Rattle.machine_state.proofs.ChangeLemmas.{waiting_changed, begun_seat}
use Rattle.machine_state.proofs.MachineLemmas.{with_threads}
use Rattle.machine_state.proofs.state.MachineState.put_waiting.Goals as goal

pub returns : goal.returns
returns g c =
    let state = g.C.ThreadCode.state in
    let now = c.args.self.now in
    let new = c.set_waiting.new.self in
    let begun = begun_seat state (seat_at now.threads c.args.thread) c.requires in
    with_threads state now new (waiting_changed state (seat_at now.threads) (seat_at new) c.args.thread c.args.waiting begun c.set_waiting.ensures.there)
