use Rattle.core_law.proofs.run_journals.MergeLemmas.{journals_are_merged}
use Rattle.core_law.proofs.run_journals.journals_are_merged.Goals as goal

pub returns : goal.returns
returns c = journals_are_merged
