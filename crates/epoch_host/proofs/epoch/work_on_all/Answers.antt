use Rattle.std.proofs.Common.{arith, subst, sym}
use Rattle.std.specs.Prelude.{IfOk, slice_index_or}
use Rattle.table_hosts.specs.Seated.{StandsOn}
use Rattle.epoch_host.specs.Work.{IsWorkOf}
use Rattle.epoch_host.proofs.Chunking.{zip_at, all_of_chunk}
use Rattle.epoch_host.proofs.epoch.work_on_all.Goals as goal

pub map_vec-requires-after_bounds : goal.map_vec-requires-after_bounds
map_vec-requires-after_bounds g c = λ κs outlives i x within is.
    (c.requires.can, all_of_chunk (StandsOn g.C.ThreadCode.state g.C.ThreadCode.saved g.C.ThreadCode.code c.args.table.now) c.args.chunks.items c.requires.stand i x within is)

pub returns : goal.returns
returns g c =
    let e = c.in_ok-map_vec.ensures in
    let len = e.len in
    let one = c.in_ok-map_vec.field-0.ok.0 in
    let other = c.args.chunks.ok.0 in
    zip_at _ c.args.chunks.items c.in_ok-map_vec.field-0.items (omega (arith, len, one, other)) (λ i d r within.
    let at = (e.each i r within).1 in
    subst (λ x. IfOk (slice_index_or c.in_ok-map_vec.field-0.items i r) (IsWorkOf g.C.ThreadCode.state g.C.ThreadCode.saved g.C.ThreadCode.code c.args.table.now x.threads.items)) (sym (at.job_is d)) at.call.met)
