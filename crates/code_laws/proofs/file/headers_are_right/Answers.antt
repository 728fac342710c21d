use Rattle.code_laws.proofs.FileLaws.{header, small}
use Rattle.code_laws.proofs.file.headers_are_right.Goals as goal

pub returns : goal.returns
returns c = record { names = header; counts = small }
