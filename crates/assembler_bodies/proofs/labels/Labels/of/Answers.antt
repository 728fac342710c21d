use mathlib.Core.Path.{fun_ext}
use Rattle.assembler_bodies.proofs.labels.Labels.of.Goals as goal

pub returns : goal.returns
returns c = fun_ext c.in_ok-marks.ensures
