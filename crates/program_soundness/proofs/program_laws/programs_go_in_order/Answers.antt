use Rattle.program_soundness.proofs.Programs.{go_in_order}
use Rattle.program_soundness.proofs.program_laws.programs_go_in_order.Goals as goal

pub returns : goal.returns
returns c us order main classes sound is below = go_in_order us order main classes sound is below
