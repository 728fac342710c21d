use Rattle.std.proofs.Common.{◌≡◌, drop}
use Rattle.toy_code.specs.Toy.{steps_of}
use Rattle.toy_code.proofs.toy.steps_for.Given as goal

abbrev pub invariant-loop-script : goal.invariant-loop-script
invariant-loop-script l = steps_of l.scripts l.object ≡ steps_of (drop l.script-index l.scripts) l.object
