use Rattle.program_soundness.proofs.SoundnessLaws.{waits}
use Rattle.program_soundness.proofs.run_laws.blocked_threads_wait.Goals as goal

pub returns : goal.returns
returns c us accepted room follow = waits us accepted room follow
