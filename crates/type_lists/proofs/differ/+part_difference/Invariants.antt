use Rattle.std.proofs.Common.{◌*◌, ◌-◌}
use Rattle.type_lists.specs.Parts.{room, word_of}
use Rattle.type_lists.specs.Differ.{AreSameWithin}
use Rattle.type_lists.proofs.differ.+part_difference.Given as goal

abbrev pub decreases-part_difference : goal.decreases-part_difference
decreases-part_difference l = l.height

abbrev pub invariant-loop-digit : goal.invariant-loop-digit
invariant-loop-digit l = AreSameWithin (word_of l.parts l.height l.before) (word_of l.parts l.height l.after) l.from (room (l.height - 1) * l.digit)
