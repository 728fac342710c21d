use Rattle.builtin_facts.proofs.NativeLaws.{natives}
use Rattle.builtin_facts.proofs.laws.natives_fit_their_table.Goals as goal

pub returns : goal.returns
returns c = natives
