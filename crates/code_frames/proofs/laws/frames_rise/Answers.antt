use Rattle.code_frames.proofs.RiseLaws.{map_rises, one_at_step}
use Rattle.code_frames.proofs.laws.frames_rise.Goals as goal

pub returns-clause-offsets : goal.returns-clause-offsets
returns-clause-offsets c = map_rises

pub returns-clause-steps : goal.returns-clause-steps
returns-clause-steps c = one_at_step
