use Rattle.type_lists.specs.Parts.{leaf_word}
use Rattle.type_lists.specs.Differ.{AreSameWithin}
use Rattle.type_lists.proofs.differ.leaf_difference.Given as goal

abbrev pub invariant-loop-place : goal.invariant-loop-place
invariant-loop-place l = AreSameWithin (leaf_word l.parts l.before) (leaf_word l.parts l.after) l.from l.place
