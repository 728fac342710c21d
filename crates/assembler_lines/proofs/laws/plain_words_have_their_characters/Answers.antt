use Rattle.class_names.proofs.FormLaws.{encoded_formed, units_again}
use Rattle.assembler_lines.proofs.WordLaws.{plain_units}
use Rattle.assembler_lines.proofs.laws.plain_words_have_their_characters.Goals as goal

pub returns : goal.returns
returns c = record { formed = λ word plain. encoded_formed word (plain_units word plain); characters = units_again }
