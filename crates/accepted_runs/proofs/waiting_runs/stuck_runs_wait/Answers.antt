use Rattle.accepted_runs.proofs.waiting_runs.Waiting.{stuck_wait}
use Rattle.accepted_runs.proofs.waiting_runs.stuck_runs_wait.Goals as goal

pub returns : goal.returns
returns c us order main sound room is = stuck_wait us main order sound room is
