use Rattle.instructions.specs.What.{targets_of}
use Rattle.method_check.proofs.Flowing.{Flows}
use Rattle.method_check.proofs.flows.check_flows.Given as goal

abbrev pub invariant-loop-target : goal.invariant-loop-target
invariant-loop-target g l =
    (goal.iterator-loop-target g).can_next l.target-iterator ×
    (goal.iterator-loop-target g).is_finite l.target-iterator ×
    Flows (g.H.ClassHierarchy.hierarchy l.hierarchy) l.method l.frame l.fn.stores l.stores (targets_of l.what) l.target-iterator
