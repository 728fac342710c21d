use Rattle.std.proofs.Common.{length}
use Rattle.code_steps.proofs.LayoutLaws.{Reached}
use Rattle.code_steps.proofs.reading.instructions.Given as goal

abbrev pub invariant-loop-cursor : goal.invariant-loop-cursor
invariant-loop-cursor l = Reached l.pool l.code l.steps l.offsets l.cursor

abbrev pub decreases-loop-cursor : goal.decreases-loop-cursor
decreases-loop-cursor l = length l.cursor
