use Rattle.std.proofs.Common.{◌≡◌, ◌+◌, ◌++◌, drop}
use Rattle.trace_journal.specs.Text.{places_in}
use Rattle.trace_journal.proofs.journal.places_of.Given as goal

abbrev pub invariant-loop-item : goal.invariant-loop-item
invariant-loop-item l = record {
  here : l.line ≡ l.item-index + 2;
  left : places_in 2 l.items ≡ l.places.items ++ places_in l.line (drop l.item-index l.items);
}
