use Rattle.assembler_text.proofs.OneLaws.{one_line}
use Rattle.assembler_text.proofs.laws.bytes_are_one_line.Goals as goal

pub returns : goal.returns
returns c = one_line
