use Rattle.code_laws.proofs.FileLaws.{distinct_fields, distinct_methods}
use Rattle.code_laws.proofs.file.members_are_distinct.Goals as goal

pub returns : goal.returns
returns c = record { fields = distinct_fields; methods = distinct_methods }
