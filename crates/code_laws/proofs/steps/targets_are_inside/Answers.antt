use Rattle.code_laws.proofs.StepLaws.{leads}
use Rattle.code_laws.proofs.steps.targets_are_inside.Goals as goal

pub returns : goal.returns
returns c = leads
