use Rattle.type_laws.proofs.Rooms.{have_room}
use Rattle.type_laws.proofs.frames.frames_have_room.Goals as goal

pub returns : goal.returns
returns c = have_room
