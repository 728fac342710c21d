use Rattle.program_soundness.proofs.StartLaws.{runs_fit}
use Rattle.program_soundness.proofs.start_laws.runs_fit.Goals as goal

pub returns : goal.returns
returns c us order main sound room is = runs_fit us order main sound room is
