use Rattle.code_write.proofs.FrameLaws.{is_stack_map}
use Rattle.code_write.proofs.laws.written_frames_are_read.Goals as goal

pub returns : goal.returns
returns c = is_stack_map
