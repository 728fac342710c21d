use Rattle.std.proofs.Common.{◌≡◌, map, take}
use Rattle.java_machine.specs.Lines.{line_bytes}
use Rattle.java_run.proofs.answering.printed.Given as goal

abbrev pub invariant-loop-line : goal.invariant-loop-line
invariant-loop-line l = l.out ≡ map (line_bytes l.world l.made) (take l.line-index l.printed)
