use Rattle.std.proofs.Common.{arith, subst}
use Rattle.table_hosts.specs.Seated.{StandsOn}
use Rattle.epoch_host.specs.Work.{IsWorkOf}
use Rattle.epoch_host.proofs.Chunking.{rest_next, rest_none, of_next}
use Rattle.epoch_host.proofs.alone.try_alone.Goals as goal

pub try_one-requires-clause-stands : goal.try_one-requires-clause-stands
try_one-requires-clause-stands g c =
    of_next (StandsOn g.C.ThreadCode.state g.C.ThreadCode.saved g.C.ThreadCode.code c.args.table.now) c.loop-seated.yielded _ _ c.args.threads.items c.in-Some.seated
    c.loop-seated.invariant.rest c.in-Some.ensures.steps.0 c.requires.stand

pub loop-seated-preserved : goal.loop-seated-preserved
loop-seated-preserved g c =
    let was = c.loop-seated.invariant in
    let e = c.in_ok-idle.ensures in
    record {
      rest = rest_next c.loop-seated.yielded _ _ c.args.threads.items c.in-Some.seated was.rest c.in-Some.ensures.steps.0;
      so_far = e.work c.loop-seated.yielded was.so_far;
      idles = λ is. e.idle is (was.idles (e.before is));
    }

pub returns-clause-work : goal.returns-clause-work
returns-clause-work g c =
    let was = c.loop-seated.invariant in
    let ok = c.loop-seated.seated-iterator.rest.ok.0 in
    let none = c.in-None.ensures.steps.0 in
    let all = rest_none c.loop-seated.yielded _ c.args.threads.items was.rest (omega (arith, ok, none)) in
    subst (λ xs. IsWorkOf g.C.ThreadCode.state g.C.ThreadCode.saved g.C.ThreadCode.code c.args.table.now xs c.loop-seated.worked) all was.so_far
