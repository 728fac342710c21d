use Rattle.type_laws.proofs.Walked.{decide}
use Rattle.type_laws.proofs.answers.walks_decide.Goals as goal

pub returns : goal.returns
returns c = decide
