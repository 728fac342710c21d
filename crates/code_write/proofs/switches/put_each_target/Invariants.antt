use Rattle.std.proofs.Common.{◌≡◌, ◌++◌, take}
use Rattle.std.specs.List.{flat_map}
use Rattle.code_write.specs.Instruction.{far_bytes}
use Rattle.code_write.proofs.switches.put_each_target.Given as goal

abbrev pub invariant-loop-target : goal.invariant-loop-target
invariant-loop-target l = l.out.items ≡ l.fn.out.items ++ flat_map (far_bytes l.at) (take l.target-index l.targets)
