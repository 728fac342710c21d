use Rattle.std.proofs.Common.{◌≡◌, map, take}
use Rattle.method_selection.specs.Entries.{entry_of}
use Rattle.method_selection.proofs.entries.class_entries.Given as goal

abbrev pub invariant-loop-member : goal.invariant-loop-member
invariant-loop-member l = l.entries.items ≡ map (entry_of l.lookup l.numbers) (take l.member-index l.members)
