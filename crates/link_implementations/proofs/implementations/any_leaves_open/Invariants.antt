use Rattle.std.proofs.Common.{◌≡◌, false, take}
use Rattle.std.specs.List.{list_any}
use Rattle.link_rules.specs.Classes.{classes_of}
use Rattle.link_implementations.specs.Tested.{AreTested}
use Rattle.link_implementations.specs.Implementations.{leaves_open}
use Rattle.link_implementations.proofs.implementations.any_leaves_open.Given as goal

abbrev pub invariant-loop-declarer : goal.invariant-loop-declarer
invariant-loop-declarer l = AreTested l.lookup l.memo.tested.items × (list_any (leaves_open l.asked (classes_of l.lookup.units) l.class) (take l.declarer-index l.declarers) ≡ false)
