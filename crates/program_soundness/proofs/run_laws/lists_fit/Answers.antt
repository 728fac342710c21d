use Rattle.program_soundness.proofs.SoundnessLaws.{lists}
use Rattle.program_soundness.proofs.run_laws.lists_fit.Goals as goal

pub returns : goal.returns
returns c us accepted room follow = lists us accepted room follow
