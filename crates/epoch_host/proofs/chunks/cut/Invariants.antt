use Rattle.std.proofs.Common.{◌≡◌, ◌≤◌, ◌+◌, ◌++◌, length}
use Rattle.epoch_host.specs.Work.{threads_of_chunks}
use Rattle.epoch_host.proofs.chunks.cut.Given as goal

abbrev pub invariant-loop-worker : goal.invariant-loop-worker
invariant-loop-worker g l = record {
  threads : threads_of_chunks l.chunks.items ++ l.rest.items ≡ l.fn.threads.items;
  count : length l.chunks.items + 1 ≡ l.worker;
  within : l.worker ≤ l.fn.workers;
  last : l.last ≡ l.worker;
}
