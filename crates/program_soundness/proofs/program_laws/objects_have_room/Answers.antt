use Rattle.program_soundness.proofs.Rooms.{have_room}
use Rattle.program_soundness.proofs.program_laws.objects_have_room.Goals as goal

pub returns : goal.returns
returns c us order sound = have_room us order sound
