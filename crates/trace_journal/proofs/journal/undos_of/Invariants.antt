use Rattle.std.proofs.Common.{◌≡◌, ◌≤◌, ◌++◌, drop}
use Rattle.trace_journal.specs.Text.{undos_in}
use Rattle.trace_journal.proofs.journal.undos_of.Given as goal

abbrev pub invariant-loop-item : goal.invariant-loop-item
invariant-loop-item l = record {
  few : l.after ≤ l.item-index;
  left : undos_in 0 l.items ≡ l.undos.items ++ undos_in l.after (drop l.item-index l.items);
}
