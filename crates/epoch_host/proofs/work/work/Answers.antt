use Rattle.std.proofs.Common.{arith, [], subst, ◌∙◌}
use Rattle.std.proofs.lemmas.List.Elements.{All-nil}
use Rattle.table_hosts.specs.Seated.{StandsOn}
use Rattle.epoch_host.specs.Work.{IsWorkOf}
use Rattle.epoch_host.proofs.Becoming.{became_itself}
use Rattle.epoch_host.proofs.Chunking.{rest_next, rest_none, of_next}
use Rattle.epoch_host.proofs.Working.{work_keeps, work_untouched}
use Rattle.epoch_host.proofs.work.work.Goals as goal

pub loop-seated-init : goal.loop-seated-init
loop-seated-init g c =
    let e = c.untouched-worked.ensures in
    record {
      rest = c.into_iter-seated-iterator.ensures.into_iter_gives.0;
      so_far = work_untouched g.C.ThreadCode.state g.C.ThreadCode.saved g.C.ThreadCode.code c.args.table.now [] c.untouched-worked.result
          (All-nil (StandsOn g.C.ThreadCode.state g.C.ThreadCode.saved g.C.ThreadCode.code c.args.table.now)) (e.threads ∙ c.new.ensures.items) e.counts.0 e.counts.1 e.met;
    }

pub work_on-requires-clause-stands : goal.work_on-requires-clause-stands
work_on-requires-clause-stands g c =
    of_next (StandsOn g.C.ThreadCode.state g.C.ThreadCode.saved g.C.ThreadCode.code c.args.table.now) c.loop-seated.yielded _ _ c.args.chunk.threads.items c.in-Some.seated
    c.loop-seated.invariant.rest c.in-Some.ensures.steps.0 c.requires.stand

pub loop-seated-preserved-then-goes_on : goal.loop-seated-preserved-then-goes_on
loop-seated-preserved-then-goes_on g c =
    let was = c.loop-seated.invariant in
    record {
      rest = rest_next c.loop-seated.yielded _ _ c.args.chunk.threads.items c.in-Some.seated was.rest c.in-Some.ensures.steps.0;
      so_far = c.in_ok-goes_on.ensures c.loop-seated.yielded was.so_far;
    }

pub loop-seated-preserved : goal.loop-seated-preserved
loop-seated-preserved g c =
    let x = c.in-Some.seated in
    let was = c.loop-seated.invariant in
    let e = c.in_ok-keep.ensures in
    let stands = of_next (StandsOn g.C.ThreadCode.state g.C.ThreadCode.saved g.C.ThreadCode.code c.args.table.now) c.loop-seated.yielded _ _ c.args.chunk.threads.items x was.rest c.in-Some.ensures.steps.0 c.requires.stand in
    record {
      rest = rest_next c.loop-seated.yielded _ _ c.args.chunk.threads.items x was.rest c.in-Some.ensures.steps.0;
      so_far = work_keeps g.C.ThreadCode.state g.C.ThreadCode.saved g.C.ThreadCode.code c.args.table.now c.loop-seated.yielded x x c.loop-seated.worked c.keep.new.self was.so_far
          (became_itself g.C.ThreadCode.state g.C.ThreadCode.saved g.C.ThreadCode.code c.args.table.now x stands) e.threads e.counts.0 e.counts.1 e.met;
    }

pub returns : goal.returns
returns g c =
    let was = c.loop-seated.invariant in
    let ok = c.loop-seated.seated-iterator.rest.ok.0 in
    let none = c.in-None.ensures.steps.0 in
    let all = rest_none c.loop-seated.yielded _ c.args.chunk.threads.items was.rest (omega (arith, ok, none)) in
    subst (λ xs. IsWorkOf g.C.ThreadCode.state g.C.ThreadCode.saved g.C.ThreadCode.code c.args.table.now xs c.loop-seated.worked) all was.so_far
