use Rattle.program_soundness.proofs.SoundnessLaws.{executions}
use Rattle.program_soundness.proofs.run_laws.executions_fit.Goals as goal

pub returns : goal.returns
returns c us accepted room follow = executions us accepted room follow
