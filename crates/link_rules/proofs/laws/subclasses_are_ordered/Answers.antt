use Rattle.link_rules.proofs.Interfaces.{below_means_above, classes_ordered}
use Rattle.link_rules.proofs.Subclasses.{subclasses_ordered}
use Rattle.link_rules.proofs.laws.subclasses_are_ordered.Goals as goal

pub returns : goal.returns
returns c = record { above = below_means_above; classes = classes_ordered; all = subclasses_ordered }
