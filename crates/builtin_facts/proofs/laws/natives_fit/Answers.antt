use Rattle.builtin_facts.proofs.ThrowableLaws.{fit}
use Rattle.builtin_facts.proofs.laws.natives_fit.Goals as goal

pub returns : goal.returns
returns c = fit
