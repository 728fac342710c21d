use Rattle.code_laws.proofs.FileLaws.{uses}
use Rattle.code_laws.proofs.file.uses_are_right.Goals as goal

pub returns : goal.returns
returns c = uses
