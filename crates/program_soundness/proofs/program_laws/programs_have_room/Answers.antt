use Rattle.program_soundness.proofs.ThreadLaws.{programs_have_room}
use Rattle.program_soundness.proofs.program_laws.programs_have_room.Goals as goal

pub returns : goal.returns
returns c us order sound room = programs_have_room us order sound room
