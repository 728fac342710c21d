use Rattle.program_soundness.proofs.ObjectLaws.{classes_follow}
use Rattle.program_soundness.proofs.object_laws.classes_follow.Goals as goal

pub returns : goal.returns
returns c us order sound room = classes_follow us order sound room
