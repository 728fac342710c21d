use Rattle.program_soundness.proofs.AcceptedPrograms.{accepted}
use Rattle.program_soundness.proofs.operand_laws.programs_are_accepted.Goals as goal

pub returns : goal.returns
returns c us order sound = accepted us order sound
