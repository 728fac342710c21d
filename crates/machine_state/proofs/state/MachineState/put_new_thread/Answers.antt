use Rattle.machine_tables.specs.Tables.{seat_at}
use Rattle.machine_tables.proofs.TableLemmas.{thread_in-unused}
use Rattle.machine_state.proofs.ChangeLemmas.{thread_begun}
use Rattle.machine_state.proofs.MachineLemmas.{with_threads}
use Rattle.machine_state.proofs.state.MachineState.put_new_thread.Goals as goal

pub returns-clause-ok : goal.returns-clause-ok
returns-clause-ok g c =
    let state = g.C.ThreadCode.state in
    let now = c.args.self.now in
    let new = c.insert.new.self in
    let none = thread_in-unused state (seat_at now.threads c.args.number) c.requires.2 in
    with_threads state now new (thread_begun state (seat_at now.threads) (seat_at new) c.args.number c.args.code none c.in_ok-insert.ensures.ok)
