use Rattle.code_laws.proofs.CodeLaws.{right_code}
use Rattle.code_laws.proofs.code.accepted_code_is_right.Goals as goal

pub returns : goal.returns
returns c = right_code
