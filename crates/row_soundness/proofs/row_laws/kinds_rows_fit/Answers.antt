use Rattle.row_soundness.specs.Kinds.{kinds}
use Rattle.row_soundness.proofs.KindsKnow.{kinds_know}
use Rattle.row_soundness.proofs.RowsTogether.{rows_fit}
use Rattle.row_soundness.proofs.row_laws.kinds_rows_fit.Goals as goal

pub returns : goal.returns
returns c us accepted = rows_fit (kinds us) us (kinds_know us) accepted
