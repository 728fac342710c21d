use Rattle.link_examples.proofs.Rings.{first_above_itself, second_above_itself, third_not_above_itself}
use Rattle.link_examples.proofs.lookups.only_rings_are_cycles.Goals as goal

pub returns-clause-first : goal.returns-clause-first
returns-clause-first c = first_above_itself

pub returns-clause-second : goal.returns-clause-second
returns-clause-second c = second_above_itself

pub returns-clause-below : goal.returns-clause-below
returns-clause-below c = third_not_above_itself
