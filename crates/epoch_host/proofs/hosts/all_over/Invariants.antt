use Rattle.std.proofs.Common.{◌≡◌, true, take}
use Rattle.std.specs.List.{All}
use Rattle.epoch_host.proofs.hosts.all_over.Given as goal

abbrev pub invariant-loop-seated : goal.invariant-loop-seated
invariant-loop-seated g l = All (λ x. x.thread.own.over ≡ true) (take l.seated-index l.threads)
