use Rattle.type_laws.proofs.Walked.{safe_or_refused}
use Rattle.type_laws.proofs.answers.methods_are_safe_or_refused.Goals as goal

pub returns : goal.returns
returns c = safe_or_refused
