use Rattle.std.proofs.Common.{◌≡◌, length}
use Rattle.command_words.specs.Options.{are_different}
use Rattle.command_words.proofs.given.are_different.Given as goal

abbrev pub invariant-loop-left : goal.invariant-loop-left
invariant-loop-left l = are_different l.given ≡ are_different l.left

abbrev pub decreases-loop-left : goal.decreases-loop-left
decreases-loop-left l = length l.left
