use Rattle.std.proofs.Common.{take}
use Rattle.std.specs.List.{All}
use Rattle.code_write.specs.Instruction.{IsCaseInRange}
use Rattle.code_write.proofs.range.are_cases_in_range.Given as goal

abbrev pub invariant-loop-case : goal.invariant-loop-case
invariant-loop-case l = All (IsCaseInRange l.at) (take l.case-index l.cases)
