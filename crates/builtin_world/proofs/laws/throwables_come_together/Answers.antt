use Rattle.builtin_world.proofs.LawLemmas.{throwables_come_together}
use Rattle.builtin_world.proofs.laws.throwables_come_together.Goals as goal

pub returns : goal.returns
returns c = throwables_come_together
