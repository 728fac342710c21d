use Rattle.link_rules.specs.Units.{AreUnits}
use Rattle.link_vectors.proofs.links.class_units.Given as goal

abbrev pub invariant-loop-file : goal.invariant-loop-file
invariant-loop-file l = AreUnits l.units.items
