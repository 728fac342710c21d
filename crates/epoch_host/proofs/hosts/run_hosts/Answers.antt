use Rattle.std.proofs.Common.{subst, sym}
use Rattle.table_hosts.specs.Standing.{ThreadsCanGoOn}
use Rattle.epoch_host.proofs.Handing.{some_threads, is_handed_over}
use Rattle.epoch_host.proofs.hosts.run_hosts.Goals as goal

pub run_epochs-requires-clause-can : goal.run_epochs-requires-clause-can
run_epochs-requires-clause-can g c κs within = subst (ThreadsCanGoOn g.C.ThreadCode.state g.C.ThreadCode.code) (sym c.in_ok-table.ensures.setup) c.requires.can

pub hand_over-requires : goal.hand_over-requires
hand_over-requires g c =
    some_threads g.C.ThreadCode.state g.C.ThreadCode.saved g.C.ThreadCode.code c.in_ok-table.table c.in_ok-table.first c.in_ok-table.ensures.view c.in_ok-all.all c.in_ok-all.ensures.work

pub returns : goal.returns
returns g c =
    let e = c.hand_over.ensures in
    is_handed_over g.C.ThreadCode.state g.C.ThreadCode.saved g.C.ThreadCode.code c.in_ok-table.table c.in_ok-table.first c.in_ok-table.ensures.view c.in_ok-all.all c.in_ok-all.ensures.work
    _ c.in_ok-table.ensures.setup c.in_ok-all.ensures.over c.hand_over.result e.table e.threads e.seats e.counts e.how
