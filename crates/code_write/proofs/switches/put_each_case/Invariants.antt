use Rattle.std.proofs.Common.{◌≡◌, ◌++◌, take}
use Rattle.std.specs.List.{flat_map, All}
use Rattle.code_write.specs.Instruction.{case_bytes, HasKey}
use Rattle.code_write.proofs.switches.put_each_case.Given as goal

abbrev pub invariant-loop-case : goal.invariant-loop-case
invariant-loop-case l = record {
  put : l.out.items ≡ l.fn.out.items ++ flat_map (case_bytes l.at) (take l.case-index l.cases);
  keys : All HasKey (take l.case-index l.cases);
}
