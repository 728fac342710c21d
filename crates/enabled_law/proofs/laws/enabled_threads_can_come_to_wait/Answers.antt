use Rattle.enabled_law.proofs.ForgettingLemmas.{can_come_to_wait}
use Rattle.enabled_law.proofs.laws.enabled_threads_can_come_to_wait.Goals as goal

pub returns : goal.returns
returns c = can_come_to_wait
