use Rattle.std.proofs.Common.{[], ◌∷◌}
use Rattle.epoch_host.specs.Work.{IsWorkOf}
use Rattle.epoch_host.proofs.hosts.run_epochs.Given as goal

abbrev pub invariant-loop-epoch : goal.invariant-loop-epoch
invariant-loop-epoch g l = IsWorkOf g.C.ThreadCode.state g.C.ThreadCode.saved g.C.ThreadCode.code l.fn.table (l.fn.first ∷ []) l.all
