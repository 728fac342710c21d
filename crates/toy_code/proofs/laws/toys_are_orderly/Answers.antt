use Rattle.toy_code.proofs.ToyLawLemmas.{toys_orderly}
use Rattle.toy_code.proofs.laws.toys_are_orderly.Goals as goal

pub returns : goal.returns
returns c = toys_orderly
