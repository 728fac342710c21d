use Rattle.std.proofs.Common.{length}
use Rattle.code_laws.proofs.StepLaws.{stands, rises}
use Rattle.code_laws.proofs.steps.instructions_stand_in_order.Goals as goal

pub returns : goal.returns
returns c = record {
  places = stands;
  order = λ pool code steps is. rises pool code 0 steps (length code) is.laid;
}
