use Rattle.code_laws.proofs.FileLaws.{entries}
use Rattle.code_laws.proofs.file.entries_are_right.Goals as goal

pub returns : goal.returns
returns c = entries
