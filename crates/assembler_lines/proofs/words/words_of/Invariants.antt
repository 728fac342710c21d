use Rattle.std.proofs.Common.{length}
use Rattle.assembler_lines.proofs.WordLaws.{WordsSoFar}
use Rattle.assembler_lines.proofs.words.words_of.Given as goal

abbrev pub invariant-loop-words : goal.invariant-loop-words
invariant-loop-words l = WordsSoFar l.text l.rest l.words.items

abbrev pub decreases-loop-words : goal.decreases-loop-words
decreases-loop-words l = length l.rest
