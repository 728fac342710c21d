use Rattle.going_runs.proofs.SeatedLemmas.{seated_threads_are_after_steps}
use Rattle.going_runs.proofs.seated_threads_are_after_steps.Goals as goal

pub returns : goal.returns
returns g c = seated_threads_are_after_steps g.C.ThreadCode.state g.C.ThreadCode.saved g.C.ThreadCode.code
