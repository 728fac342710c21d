use Rattle.type_laws.proofs.Rooms.{first_is_entry}
use Rattle.type_laws.proofs.frames.first_frames_are_entries.Goals as goal

pub returns : goal.returns
returns c = first_is_entry
