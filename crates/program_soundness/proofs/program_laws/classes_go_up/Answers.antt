use Rattle.program_soundness.proofs.ClassLaws.{classes_go_up}
use Rattle.program_soundness.proofs.program_laws.classes_go_up.Goals as goal

pub returns : goal.returns
returns c us order sound = classes_go_up us order sound
