use Rattle.std.proofs.Common.{◌<◌, ℕ}
use Rattle.handler_frames.specs.Known.{GoesAt}
use Rattle.handler_frames.proofs.covering.CoveringHandlers.held_by.Given as goal

abbrev pub invariant-loop : goal.invariant-loop
invariant-loop g l = (n : ℕ) → n < l.from → GoesAt (g.H.ClassHierarchy.hierarchy l.hierarchy) l.stores l.self l.locals n
