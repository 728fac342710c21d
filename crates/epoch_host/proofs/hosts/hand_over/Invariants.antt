use Rattle.std.proofs.Common.{◌≡◌, ◌++◌, map}
use Rattle.epoch_host.proofs.hosts.hand_over.Given as goal

abbrev pub invariant-loop-one : goal.invariant-loop-one
invariant-loop-one g l = record {
  more : l.yielded ++ l.one-iterator.rest.items ≡ l.fn.all.threads.items;
  threads : l.threads.items ≡ map (λ x. x.thread) l.yielded;
  seats : l.rest.items ≡ map (λ x. x.seat) l.yielded;
}
