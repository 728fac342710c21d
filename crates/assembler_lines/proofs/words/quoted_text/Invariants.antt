use Rattle.std.proofs.Common.{length}
use Rattle.assembler_lines.proofs.WordLaws.{QuotedSoFar}
use Rattle.assembler_lines.proofs.words.quoted_text.Given as goal

abbrev pub invariant-loop-unit : goal.invariant-loop-unit
invariant-loop-unit l = QuotedSoFar l.bytes l.rest l.units.items

abbrev pub decreases-loop-unit : goal.decreases-loop-unit
decreases-loop-unit l = length l.rest
