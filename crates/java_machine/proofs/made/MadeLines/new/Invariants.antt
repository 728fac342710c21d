use Rattle.std.proofs.Common.{take, nat_eq}
use Rattle.std.specs.HashMap.{get}
use Rattle.java_machine.proofs.MadeLaws.{AreFound}
use Rattle.java_machine.proofs.made.MadeLines.new.Given as goal

abbrev pub invariant-loop-text : goal.invariant-loop-text
invariant-loop-text l = AreFound (take l.text-index l.made) (get nat_eq l.table)
