use Rattle.class_names.proofs.TextLaws.{one_text}
use Rattle.class_names.proofs.laws.bytes_have_one_text.Goals as goal

pub returns : goal.returns
returns c = one_text
