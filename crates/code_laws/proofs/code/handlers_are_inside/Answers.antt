use Rattle.code_laws.proofs.HandlerLaws.{handlers_inside}
use Rattle.code_laws.proofs.code.handlers_are_inside.Goals as goal

pub returns : goal.returns
returns c = handlers_inside
