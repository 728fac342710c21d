use Rattle.toy_code.proofs.ToyLawLemmas.{toys_grounded}
use Rattle.toy_code.proofs.laws.toys_are_grounded.Goals as goal

pub returns : goal.returns
returns c = toys_grounded
