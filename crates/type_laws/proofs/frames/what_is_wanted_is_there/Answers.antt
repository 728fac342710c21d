use Rattle.type_laws.proofs.Kept.{wanted_there}
use Rattle.type_laws.proofs.frames.what_is_wanted_is_there.Goals as goal

pub returns : goal.returns
returns c = wanted_there
