use Rattle.row_soundness.specs.Runs.{runs}
use Rattle.row_soundness.proofs.RowsTogether.{rows_fit}
use Rattle.row_soundness.proofs.row_laws.runs_rows_fit.Goals as goal

pub returns : goal.returns
returns c us knows accepted = rows_fit (runs us) us knows accepted
