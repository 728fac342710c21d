use Rattle.program_soundness.proofs.SoundnessLaws.{grounded}
use Rattle.program_soundness.proofs.run_laws.programs_are_grounded.Goals as goal

pub returns : goal.returns
returns c us accepted room follow = grounded us accepted room follow
