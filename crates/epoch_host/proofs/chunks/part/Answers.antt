use Rattle.std.proofs.Common.{arith, ◌++◌, subst}
use Rattle.epoch_host.specs.Work.{AreSameThreads}
use Rattle.epoch_host.proofs.Chunking.{rest_next, rest_none}
use Rattle.epoch_host.proofs.chunks.part.Goals as goal

pub loop-seated-preserved : goal.loop-seated-preserved
loop-seated-preserved g c =
    let was = c.loop-seated.invariant in
    record {
      rest = rest_next c.loop-seated.yielded _ _ c.args.threads.items c.in-Some.seated was.rest c.in-Some.ensures.steps.0;
      same = c.in_ok-put_apart.ensures c.loop-seated.yielded was.same;
    }

pub returns : goal.returns
returns g c =
    let was = c.loop-seated.invariant in
    let ok = c.loop-seated.seated-iterator.rest.ok.0 in
    let none = c.in-None.ensures.steps.0 in
    let all = rest_none c.loop-seated.yielded _ c.args.threads.items was.rest (omega (arith, ok, none)) in
    subst (λ xs. AreSameThreads xs (c.loop-seated.over.items ++ c.loop-seated.live.items)) all was.same
