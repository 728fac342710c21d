use Rattle.type_laws.proofs.Flows.{go_on}
use Rattle.type_laws.proofs.frames.frames_go_on.Goals as goal

pub returns : goal.returns
returns c = go_on
