use Rattle.std.proofs.Common.{pos, arith}
use Rattle.std.proofs.lemmas.Grind.{common_steps}
use Rattle.std.proofs.lemmas.List.Elements.{All-more}
use Rattle.code_write.specs.Instruction.{HasKey}
use Rattle.code_write.proofs.switches.put_each_case.Goals as goal

pub loop-case-preserved : goal.loop-case-preserved
loop-case-preserved c = record {
  put = grind (arith, common_steps);
  keys = All-more HasKey c.args.cases.now c.loop-case.case-index (record { key = pos 0; target = 0 }) c.loop-case-test.true c.loop-case.invariant.keys c.in_ok-put_case.ensures.key;
}
