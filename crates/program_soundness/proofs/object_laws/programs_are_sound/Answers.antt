use Rattle.program_soundness.proofs.ObjectLaws.{programs_sound}
use Rattle.program_soundness.proofs.object_laws.programs_are_sound.Goals as goal

pub returns : goal.returns
returns c us order sound room = programs_sound us order sound room
