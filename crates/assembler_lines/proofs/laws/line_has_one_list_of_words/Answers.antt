use Rattle.assembler_lines.proofs.WordLaws.{one_list}
use Rattle.assembler_lines.proofs.laws.line_has_one_list_of_words.Goals as goal

pub returns : goal.returns
returns c = one_list
