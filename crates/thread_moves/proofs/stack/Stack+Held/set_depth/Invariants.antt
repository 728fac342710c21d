use Rattle.std.proofs.Common.{◌≡◌}
use Rattle.thread_moves.proofs.DepthLemmas.{some_deep}
use Rattle.thread_moves.proofs.stack.Stack+Held.set_depth.Given as goal

abbrev pub invariant-loop-index : goal.invariant-loop-index
invariant-loop-index l = l.self-inside.items.items ≡ some_deep l.object l.depth l.index l.initial.self-inside.items.items
