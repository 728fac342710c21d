use Rattle.assembler_laws.proofs.WrittenCode.FrameLaws.{only_written_frames}
use Rattle.assembler_laws.proofs.written_code.only_written_frames_are_read.Goals as goal

pub returns : goal.returns
returns c = only_written_frames
