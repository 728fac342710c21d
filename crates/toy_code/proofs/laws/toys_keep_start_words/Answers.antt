use Rattle.toy_code.proofs.ToyLawLemmas.{toys_keep}
use Rattle.toy_code.proofs.laws.toys_keep_start_words.Goals as goal

pub returns : goal.returns
returns c = toys_keep
