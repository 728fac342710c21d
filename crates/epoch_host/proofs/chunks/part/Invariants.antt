use Rattle.std.proofs.Common.{◌≡◌, ◌++◌}
use Rattle.epoch_host.specs.Work.{AreSameThreads}
use Rattle.epoch_host.proofs.chunks.part.Given as goal

abbrev pub invariant-loop-seated : goal.invariant-loop-seated
invariant-loop-seated g l = record {
  rest : l.yielded ++ l.seated-iterator.rest.items ≡ l.fn.threads.items;
  same : AreSameThreads l.yielded (l.over.items ++ l.live.items);
}
