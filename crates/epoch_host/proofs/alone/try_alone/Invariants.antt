use Rattle.std.proofs.Common.{◌≡◌, ◌++◌, true}
use Rattle.std.specs.List.{All}
use Rattle.epoch_host.specs.Work.{IsWorkOf}
use Rattle.epoch_host.specs.Runs.{HasEndedOrIdles}
use Rattle.epoch_host.proofs.alone.try_alone.Given as goal

abbrev pub invariant-loop-seated : goal.invariant-loop-seated
invariant-loop-seated g l = record {
  rest : l.yielded ++ l.seated-iterator.rest.items ≡ l.fn.threads.items;
  so_far : IsWorkOf g.C.ThreadCode.state g.C.ThreadCode.saved g.C.ThreadCode.code l.fn.table l.yielded l.worked;
  idles : l.idle ≡ true → All (HasEndedOrIdles g.C.ThreadCode.state g.C.ThreadCode.saved g.C.ThreadCode.code l.fn.table) l.worked.threads.items;
}
