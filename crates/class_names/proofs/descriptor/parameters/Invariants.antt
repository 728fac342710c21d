use Rattle.std.proofs.Common.{length}
use Rattle.class_names.proofs.ParameterLaws.{WordsSoFar}
use Rattle.class_names.proofs.descriptor.parameters.Given as goal

abbrev pub invariant-loop-shape : goal.invariant-loop-shape
invariant-loop-shape l = WordsSoFar l.bytes l.rest l.count l.words

abbrev pub decreases-loop-shape : goal.decreases-loop-shape
decreases-loop-shape l = length l.rest
