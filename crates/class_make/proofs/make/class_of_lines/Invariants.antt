use Rattle.std.proofs.Common.{◌≡◌, length}
use Rattle.class_make.specs.Assembly.{assembled, assembled_from}
use Rattle.class_make.specs.States.{state_of}
use Rattle.class_make.proofs.make.class_of_lines.Given as goal

abbrev pub invariant-loop-numbered : goal.invariant-loop-numbered
invariant-loop-numbered l = assembled_from l.behind l.rest l.pool (state_of l.state) ≡ assembled l.behind l.lines

abbrev pub decreases-loop-numbered : goal.decreases-loop-numbered
decreases-loop-numbered l = length l.rest
