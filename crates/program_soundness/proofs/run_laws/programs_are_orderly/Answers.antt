use Rattle.program_soundness.proofs.SoundnessLaws.{orderly}
use Rattle.program_soundness.proofs.run_laws.programs_are_orderly.Goals as goal

pub returns : goal.returns
returns c us main classes accepted room is below = orderly us accepted room main classes is below
