use Rattle.accepted_runs.proofs.java_cores.core_states_fit.Goals as goal
use Rattle.accepted_runs.proofs.java_cores.Whole.{core_states_fit}

pub returns : goal.returns
returns c us order main sound room is = core_states_fit us order sound room main is
