use Rattle.program_soundness.proofs.PriorityLaws.{fit_from_start}
use Rattle.program_soundness.proofs.priority_laws.priorities_fit.Goals as goal

pub returns : goal.returns
returns c us order main sound room is = fit_from_start us order sound room main is
