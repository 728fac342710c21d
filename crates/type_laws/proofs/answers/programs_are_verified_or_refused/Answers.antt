use Rattle.type_laws.proofs.Verdicts.{one_answer}
use Rattle.type_laws.proofs.answers.programs_are_verified_or_refused.Goals as goal

pub returns : goal.returns
returns c = one_answer
