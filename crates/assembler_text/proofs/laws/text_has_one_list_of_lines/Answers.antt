use Rattle.assembler_text.proofs.OneLaws.{one_text}
use Rattle.assembler_text.proofs.laws.text_has_one_list_of_lines.Goals as goal

pub returns : goal.returns
returns c = one_text
