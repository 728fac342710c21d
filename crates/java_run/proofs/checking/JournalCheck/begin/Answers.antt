use Rattle.std.proofs.Common.{subst}
use Rattle.java_rows.specs.Thread.{java_code}
use Rattle.journal_check.specs.Checked.{IsChecked}
use Rattle.java_run.proofs.checking.JournalCheck.begin.Goals as goal

pub returns : goal.returns
returns g c text found rest = subst (λ m. IsChecked java_code m text found) c.in_ok-machine.ensures (c.new.ensures text found rest)
