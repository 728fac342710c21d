use Rattle.program_soundness.proofs.Programs.{main_begins}
use Rattle.program_soundness.proofs.program_laws.main_methods_begin.Goals as goal

pub returns : goal.returns
returns c us order main sound is = main_begins us order main sound is
