use Rattle.code_laws.proofs.FrameLaws.{right_stack}
use Rattle.code_laws.proofs.frames.stacks_are_spelled.Goals as goal

pub returns : goal.returns
returns c = right_stack
