use Rattle.number_facts.proofs.NumberLaws.{fit}
use Rattle.number_facts.proofs.laws.numbers_fit.Goals as goal

pub returns : goal.returns
returns c = fit
