use Rattle.code_laws.proofs.FileLaws.{fields, methods}
use Rattle.code_laws.proofs.file.members_are_right.Goals as goal

pub returns : goal.returns
returns c = record { fields = fields; methods = methods }
