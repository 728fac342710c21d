use Rattle.row_soundness.proofs.KindsKnow.{kinds_know}
use Rattle.row_soundness.proofs.knowledge_laws.kinds_are_known.Goals as goal

pub returns : goal.returns
returns c us = kinds_know us
