use Rattle.std.proofs.Common.{arith, subst}
use Rattle.epoch_host.proofs.Chunking.{rest_next, rest_none}
use Rattle.epoch_host.proofs.Working.{Gathered, gathered_none, gathered_more}
use Rattle.epoch_host.proofs.epoch.gather.Goals as goal

pub loop-result-init : goal.loop-result-init
loop-result-init g c = record {
  rest = c.into_iter-result-iterator.ensures.into_iter_gives.0;
  so_far = λ table. gathered_none g.C.ThreadCode.state g.C.ThreadCode.saved g.C.ThreadCode.code table c.args.others;
}

pub loop-result-preserved : goal.loop-result-preserved
loop-result-preserved g c =
    let was = c.loop-result.invariant in
    let e = c.in_ok-absorb.ensures in
    record {
      rest = rest_next c.loop-result.yielded _ _ c.args.results.items c.in-Some.result was.rest c.in-Some.ensures.steps.0;
      so_far = λ table. gathered_more g.C.ThreadCode.state g.C.ThreadCode.saved g.C.ThreadCode.code table c.args.others c.loop-result.all c.absorb.new.self c.in_ok-result.field-0 c.loop-result.yielded c.in-Some.result
          (was.so_far table) c.in_ok-result.was e.threads e.opened e.undone e.met;
    }

pub returns : goal.returns
returns g c =
    let was = c.loop-result.invariant in
    let ok = c.loop-result.result-iterator.rest.ok.0 in
    let none = c.in-None.ensures.steps.0 in
    let all = rest_none c.loop-result.yielded _ c.args.results.items was.rest (omega (arith, ok, none)) in
    λ table. subst (λ rs. Gathered g.C.ThreadCode.state g.C.ThreadCode.saved g.C.ThreadCode.code table c.args.others rs c.loop-result.all) all (was.so_far table)
