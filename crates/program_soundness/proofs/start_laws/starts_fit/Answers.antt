use Rattle.program_soundness.proofs.Starts.{starts_fit}
use Rattle.program_soundness.proofs.start_laws.starts_fit.Goals as goal

pub returns : goal.returns
returns c us order main sound room is = starts_fit us order main sound room is
