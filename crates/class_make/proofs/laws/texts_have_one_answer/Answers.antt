use Rattle.class_make.proofs.TextLaws.{one_answer}
use Rattle.class_make.proofs.laws.texts_have_one_answer.Goals as goal

pub returns : goal.returns
returns c = one_answer
