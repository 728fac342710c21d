use Rattle.std.proofs.Common.{◌≡◌, inl, true, subst, sym}
use Rattle.std.specs.List.{All}
use Rattle.std.proofs.lemmas.List.Elements.{All-weaker}
use Rattle.table_hosts.specs.Seated.{StandsOn}
use Rattle.epoch_host.specs.Runs.{HasEndedOrIdles}
use Rattle.epoch_host.proofs.Becoming.{all_same}
use Rattle.epoch_host.proofs.Working.{work_then, work_ordered}
use Rattle.epoch_host.proofs.hosts.run_round.Goals as goal

pub returns-then-is_over-clause-work : goal.returns-then-is_over-clause-work
returns-then-is_over-clause-work g c = λ threads became.
    let e = c.in_ok-worked-2.ensures in
    work_then g.C.ThreadCode.state g.C.ThreadCode.saved g.C.ThreadCode.code c.args.table.now threads c.args.all.opened c.args.all.undone c.args.all.threads.items c.in_ok-worked.worked c.in_ok-worked-2.worked became c.in_ok-worked.ensures
    e.threads e.opened e.undone e.met

pub returns-then-is_over-clause-over : goal.returns-then-is_over-clause-over
returns-then-is_over-clause-over g c = λ is none.
    All-weaker (λ x. x.thread.own.over ≡ true) (HasEndedOrIdles g.C.ThreadCode.state g.C.ThreadCode.saved g.C.ThreadCode.code c.args.table.now) (λ x over. inl over) c.in_ok-worked-2.worked.threads.items
    (c.is_over.ensures c.if-is_over.true none)

pub returns-then-worked-clause-work : goal.returns-then-worked-clause-work
returns-then-worked-clause-work g c = λ threads became.
    let e = c.in_ok-worked-2.ensures in
    work_then g.C.ThreadCode.state g.C.ThreadCode.saved g.C.ThreadCode.code c.args.table.now threads c.args.all.opened c.args.all.undone c.args.all.threads.items c.in_ok-worked.worked c.in_ok-worked-2.worked became c.in_ok-worked.ensures
    e.threads e.opened e.undone e.met

pub try_alone-requires-clause-stand : goal.try_alone-requires-clause-stand
try_alone-requires-clause-stand g c =
    subst (All (StandsOn g.C.ThreadCode.state g.C.ThreadCode.saved g.C.ThreadCode.code c.args.table.now)) (sym c.in_ok-worked-2.ensures.threads) c.in_ok-worked.ensures.became.stand

pub returns-clause-work : goal.returns-clause-work
returns-clause-work g c = λ threads became.
    let e = c.in_ok-worked-2.ensures in
    let worked = c.in_ok-worked-2.worked in
    let first = work_then g.C.ThreadCode.state g.C.ThreadCode.saved g.C.ThreadCode.code c.args.table.now threads c.args.all.opened c.args.all.undone c.args.all.threads.items c.in_ok-worked.worked worked became c.in_ok-worked.ensures
    e.threads e.opened e.undone e.met in
    let after = c.in_ok-tried.ensures in
    let both = work_then g.C.ThreadCode.state g.C.ThreadCode.saved g.C.ThreadCode.code c.args.table.now threads worked.opened worked.undone worked.threads.items c.in_ok-tried.tried c.in_ok-tried-2.tried first.became c.in_ok-tried.ensures.work
    c.in_ok-tried-2.ensures.threads c.in_ok-tried-2.ensures.opened c.in_ok-tried-2.ensures.undone c.in_ok-tried-2.ensures.met in
    let counts = c.in_ok-tried-3.ensures.counts in
    work_ordered g.C.ThreadCode.state g.C.ThreadCode.saved g.C.ThreadCode.code c.args.table.now threads c.in_ok-tried-2.tried c.in_ok-tried-3.tried both c.in_ok-tried-3.ensures.threads counts.0 counts.1 counts.2

pub returns-clause-over : goal.returns-clause-over
returns-clause-over g c = λ is none.
    let Done = HasEndedOrIdles g.C.ThreadCode.state g.C.ThreadCode.saved g.C.ThreadCode.code c.args.table.now in
    let all = c.in_ok-tried.ensures.idle (c.is_through-over.ensures is none) in
    all_same Done c.in_ok-tried-2.tried.threads.items c.in_ok-tried-3.tried.threads.items c.in_ok-tried-3.ensures.threads (subst (All Done) (sym c.in_ok-tried-2.ensures.threads) all)
