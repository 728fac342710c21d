use Rattle.std.proofs.Common.{◌≡◌, filter_map, take}
use Rattle.java_machine.specs.Ends.{died_line}
use Rattle.java_run.proofs.answering.died.Given as goal

abbrev pub invariant-loop-end : goal.invariant-loop-end
invariant-loop-end l = l.err ≡ filter_map (died_line l.world) (take l.end-index l.ended)
