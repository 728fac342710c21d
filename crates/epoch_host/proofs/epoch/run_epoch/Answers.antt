use Rattle.std.proofs.Common.{◌++◌, ap, subst, sym}
use Rattle.std.specs.List.{All}
use Rattle.table_hosts.specs.Seated.{StandsOn}
use Rattle.epoch_host.specs.Work.{IsWorkOf}
use Rattle.epoch_host.proofs.Becoming.{all_same}
use Rattle.epoch_host.proofs.Chunking.{if_ok_both, all_left, all_right}
use Rattle.epoch_host.proofs.Working.{work_untouched, work_ordered, work_of_same}
use Rattle.epoch_host.proofs.epoch.run_epoch.Goals as goal

pub work_on_all-requires-clause-stand : goal.work_on_all-requires-clause-stand
work_on_all-requires-clause-stand g c = λ κs outlives.
    let Stands = StandsOn g.C.ThreadCode.state g.C.ThreadCode.saved g.C.ThreadCode.code c.args.table.now in
    subst (All Stands) (sym c.in_ok-chunks.ensures.threads) (all_right Stands c.in_ok-live.over.items c.in_ok-live.live.items (all_same Stands c.args.threads.items _ c.in_ok-live.ensures c.requires.stand))

pub returns : goal.returns
returns g c =
    let state = g.C.ThreadCode.state in
    let saved = g.C.ThreadCode.saved in
    let code = g.C.ThreadCode.code in
    let table = c.args.table.now in
    let Stands = StandsOn state saved code table in
    let over = c.in_ok-live.over.items in
    let live = c.in_ok-live.live.items in
    let stand = all_left Stands over live (all_same Stands c.args.threads.items (over ++ live) c.in_ok-live.ensures c.requires.stand) in
    let e = c.untouched.ensures in
    let others = work_untouched state saved code table over c.untouched.result stand e.threads e.counts.0 e.counts.1 e.met in
    let all = c.in_ok-all.ensures table over c.in_ok-chunks.chunks.items others c.in_ok-results.ensures in
    let its = work_of_same state saved code table c.args.threads.items (over ++ live) c.in_ok-all.all c.in_ok-live.ensures c.requires.stand
    (subst (λ xs. IsWorkOf state saved code table xs c.in_ok-all.all) (ap (λ xs. over ++ xs) c.in_ok-chunks.ensures.threads) all) in
    if_ok_both _ _ (IsWorkOf state saved code table c.args.threads.items) c.ordered.result c.ordered.ensures.threads c.ordered.ensures.counts
    (λ r same counts. work_ordered state saved code table c.args.threads.items c.in_ok-all.all r its same counts.0 counts.1 counts.2)
