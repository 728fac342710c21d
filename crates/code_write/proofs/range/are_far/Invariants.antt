use Rattle.std.proofs.Common.{take}
use Rattle.std.specs.List.{All}
use Rattle.code_write.specs.Instruction.{IsFar}
use Rattle.code_write.proofs.range.are_far.Given as goal

abbrev pub invariant-loop-target : goal.invariant-loop-target
invariant-loop-target l = All (IsFar l.at) (take l.target-index l.targets)
