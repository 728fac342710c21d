use Rattle.code_laws.proofs.FrameLaws.{stands_at}
use Rattle.code_laws.proofs.frames.frames_stand_at_instructions.Goals as goal

pub returns : goal.returns
returns c = stands_at
