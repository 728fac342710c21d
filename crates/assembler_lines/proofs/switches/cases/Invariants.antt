use Rattle.std.proofs.Common.{◌≡◌, length}
use Rattle.assembler_lines.specs.ReadingSwitches.{cases_at}
use Rattle.assembler_lines.proofs.EachLaws.{with_front}
use Rattle.assembler_lines.proofs.switches.cases.Given as goal

abbrev pub invariant-loop-rest : goal.invariant-loop-rest
invariant-loop-rest l = with_front l.cases (cases_at l.rest) ≡ cases_at l.words

abbrev pub decreases-loop-rest : goal.decreases-loop-rest
decreases-loop-rest l = length l.rest
