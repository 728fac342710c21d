use Rattle.method_check.proofs.Begun.{Filling}
use Rattle.method_check.proofs.begin.entry_frame.Given as goal

abbrev pub invariant-loop-at : goal.invariant-loop-at
invariant-loop-at l = Filling l.fn.stores l.stores l.frame l.entry.words.items l.entry.constructs l.at
