use Rattle.ordinary_machine.specs.Machine.{machine_of}
use Rattle.ordinary_runs.proofs.MadeLemmas.{AreMadeBelow}
use Rattle.ordinary_runs.proofs.made.made_texts.Given as goal

abbrev pub invariant-loop-array : goal.invariant-loop-array
invariant-loop-array g l = AreMadeBelow (machine_of g.C.ThreadCode.state l.machine).now l.array-items l.array-index l.made
