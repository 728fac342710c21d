use Rattle.std.proofs.Common.{◌≡◌, map}
use Rattle.std.specs.List.{range_with_len}
use Rattle.method_selection.specs.Entries.{class_entries}
use Rattle.method_selection.proofs.entries.method_entries.Given as goal

abbrev pub invariant-loop-class : goal.invariant-loop-class
invariant-loop-class l = l.entries.items ≡ map (class_entries l.lookup l.numbers) (range_with_len 0 l.class)
