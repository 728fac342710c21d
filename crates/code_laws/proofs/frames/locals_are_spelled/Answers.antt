use Rattle.code_laws.proofs.FrameLaws.{right_locals, right_change}
use Rattle.code_laws.proofs.frames.locals_are_spelled.Goals as goal

pub returns : goal.returns
returns c = record { locals = right_locals; changes = right_change }
