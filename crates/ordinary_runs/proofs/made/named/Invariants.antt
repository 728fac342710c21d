use Rattle.std.proofs.Common.{take}
use Rattle.ordinary_runs.proofs.MadeLemmas.{AreNamed}
use Rattle.ordinary_runs.proofs.made.named.Given as goal

abbrev pub invariant-loop-line : goal.invariant-loop-line
invariant-loop-line l = AreNamed (take l.line-index l.line-items) l.arrays.items
