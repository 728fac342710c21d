use Rattle.code_laws.proofs.StepLaws.{operands}
use Rattle.code_laws.proofs.steps.operands_are_named.Goals as goal

pub returns : goal.returns
returns c = record {
  names = λ pool code steps is k i there. (operands pool code steps is k i there).names;
  fits = λ pool code steps is k i there. (operands pool code steps is k i there).fits;
}
