use Rattle.link_vectors.proofs.UnitLaws.{of_file}
use Rattle.link_vectors.proofs.links.class_unit.Goals as goal

pub returns-in-Ok : goal.returns-in-Ok
returns-in-Ok c = of_file _ _ c.in_ok-file.ensures c.in-Ok.ensures.found
