use Rattle.std.proofs.Common.{◌+◌, ◌-◌, ◌*◌, ◌≤◌, length}
use Rattle.type_lists.specs.Parts.{most_parts}
use Rattle.type_lists.proofs.Replaced.{Replacing}
use Rattle.type_lists.proofs.replace.+replaced_in.Given as goal

abbrev pub decreases-replaced_in : goal.decreases-replaced_in
decreases-replaced_in l = l.height

abbrev pub invariant-loop-digit : goal.invariant-loop-digit
invariant-loop-digit l = record {
  replacing : Replacing l.fn.parts.items l.parts.items l.marks.items l.height l.part l.old l.new l.children l.digit l.is_changed;
  few : length l.parts.items + (32 - l.digit) * most_parts (l.height - 1) ≤ length l.fn.parts.items + 32 * most_parts (l.height - 1);
}
