use Rattle.code_laws.proofs.StepLaws.{begins, few}
use Rattle.code_laws.proofs.steps.code_begins_with_an_instruction.Goals as goal

pub returns : goal.returns
returns c = record { first = begins; few = few }
