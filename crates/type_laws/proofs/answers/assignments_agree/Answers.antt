use Rattle.type_laws.proofs.Walked.{agree}
use Rattle.type_laws.proofs.answers.assignments_agree.Goals as goal

pub returns : goal.returns
returns c = agree
