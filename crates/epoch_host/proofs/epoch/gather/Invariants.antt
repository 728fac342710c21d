use Rattle.std.proofs.Common.{◌≡◌, ◌++◌}
use Rattle.table_words.specs.declared.table.TableWords.{TableWords}
use Rattle.epoch_host.proofs.Working.{Gathered}
use Rattle.epoch_host.proofs.epoch.gather.Given as goal

abbrev pub invariant-loop-result : goal.invariant-loop-result
invariant-loop-result g l = record {
  rest : l.yielded ++ l.result-iterator.rest.items ≡ l.fn.results.items;
  so_far : (table : TableWords g.row.C.Denot) → Gathered g.C.ThreadCode.state g.C.ThreadCode.saved g.C.ThreadCode.code table l.fn.others l.yielded l.all;
}
