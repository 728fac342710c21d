use Rattle.std.proofs.Common.{◌≡◌, ◌++◌}
use Rattle.class_names.proofs.descriptor.kinds.Given as goal

abbrev pub invariant-loop-shape : goal.invariant-loop-shape
invariant-loop-shape l = l.kinds ++ l.shape-iterator ≡ l.fn.parameters
