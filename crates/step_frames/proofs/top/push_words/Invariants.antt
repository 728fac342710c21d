use Rattle.step_frames.proofs.Tops.{Pushing}
use Rattle.step_frames.proofs.top.push_words.Given as goal

abbrev pub invariant-loop-left : goal.invariant-loop-left
invariant-loop-left l = Pushing l.fn.stores l.fn.frame l.words l.stores l.made l.left

abbrev pub decreases-loop-left : goal.decreases-loop-left
decreases-loop-left l = l.left
