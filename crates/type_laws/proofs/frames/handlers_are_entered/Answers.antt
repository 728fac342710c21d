use Rattle.type_laws.proofs.Flows.{entered}
use Rattle.type_laws.proofs.frames.handlers_are_entered.Goals as goal

pub returns : goal.returns
returns c = entered
