use Rattle.core_law.proofs.EndLemmas.{held_up_turns_are_idle}
use Rattle.core_law.proofs.stuck_laws.held_up_turns_are_idle.Goals as goal

pub returns : goal.returns
returns g c = held_up_turns_are_idle g.C.ThreadCode.code
