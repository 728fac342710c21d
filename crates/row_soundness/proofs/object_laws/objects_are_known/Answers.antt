use Rattle.row_soundness.proofs.RunsKnow.{runs_know}
use Rattle.row_soundness.proofs.object_laws.objects_are_known.Goals as goal

pub returns : goal.returns
returns c us follow = runs_know us follow
