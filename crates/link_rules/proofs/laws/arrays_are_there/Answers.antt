use Rattle.link_rules.proofs.Arrays.{arrays}
use Rattle.link_rules.proofs.laws.arrays_are_there.Goals as goal

pub returns : goal.returns
returns c = arrays
