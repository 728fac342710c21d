use Rattle.std.proofs.Common.{length}
use Rattle.assembler_text.proofs.NumberLaws.{NumberedSoFar}
use Rattle.assembler_text.proofs.lines.lines_of.Given as goal

abbrev pub invariant-loop-line : goal.invariant-loop-line
invariant-loop-line l = NumberedSoFar l.text l.rest l.number l.lines

abbrev pub decreases-loop-line : goal.decreases-loop-line
decreases-loop-line l = length l.rest
