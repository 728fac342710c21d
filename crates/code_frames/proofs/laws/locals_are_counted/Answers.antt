use Rattle.code_frames.proofs.LocalLaws.{length-entry_locals, length-locals_after}
use Rattle.code_frames.proofs.laws.locals_are_counted.Goals as goal

pub returns-clause-entry : goal.returns-clause-entry
returns-clause-entry c = length-entry_locals

pub returns-clause-frames : goal.returns-clause-frames
returns-clause-frames c = length-locals_after
