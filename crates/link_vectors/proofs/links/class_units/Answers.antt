use Rattle.std.proofs.Common.{sym, subst}
use Rattle.link_rules.specs.Units.{AreUnits}
use Rattle.link_vectors.proofs.UnitLaws.{one_more}
use Rattle.link_vectors.proofs.links.class_units.Goals as goal

pub loop-file-preserved : goal.loop-file-preserved
loop-file-preserved c = subst AreUnits (sym c.in-Ok.ensures.items) (one_more _ _ c.loop-file.invariant c.in_ok-unit.ensures)
