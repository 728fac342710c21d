use Rattle.std.proofs.Common.{◌≡◌, ◌++◌, drop}
use Rattle.trace_journal.specs.Text.{events_in}
use Rattle.trace_journal.proofs.journal.events_of.Given as goal

abbrev pub invariant-loop-item : goal.invariant-loop-item
invariant-loop-item l = record {
  left : events_in l.items ≡ l.events.items ++ events_in (drop l.item-index l.items);
}
