use Rattle.std.proofs.Common.{◌≡◌, ◌++◌}
use Rattle.epoch_host.specs.Work.{IsWorkOf}
use Rattle.epoch_host.proofs.work.work.Given as goal

abbrev pub invariant-loop-seated : goal.invariant-loop-seated
invariant-loop-seated g l = record {
  rest : l.yielded ++ l.seated-iterator.rest.items ≡ l.fn.chunk.threads.items;
  so_far : IsWorkOf g.C.ThreadCode.state g.C.ThreadCode.saved g.C.ThreadCode.code l.fn.table l.yielded l.worked;
}
