use Rattle.builtin_world.proofs.LawLemmas.{natives_are_own}
use Rattle.builtin_world.proofs.laws.natives_are_own.Goals as goal

pub returns : goal.returns
returns c = natives_are_own
