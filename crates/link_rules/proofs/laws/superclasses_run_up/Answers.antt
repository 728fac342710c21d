use Rattle.link_rules.proofs.Upward.{runs_up}
use Rattle.link_rules.proofs.laws.superclasses_run_up.Goals as goal

pub returns : goal.returns
returns c = runs_up
