use Rattle.std.proofs.Common.{◌≡◌, List, false, take}
use Rattle.std.specs.List.{list_any}
use Rattle.link_rules.specs.Classes.{NamedMember, classes_of}
use Rattle.link_implementations.specs.Tested.{AreTested}
use Rattle.link_implementations.specs.Implementations.{HaveCandidates, is_open}
use Rattle.link_implementations.proofs.implementations.any_open.Given as goal

abbrev pub invariant-loop-its : goal.invariant-loop-its
invariant-loop-its l = AreTested l.lookup l.memo.tested.items × ((ms : List NamedMember) → HaveCandidates l.lookup ms l.candidates → list_any (is_open l.asked (classes_of l.lookup.units) l.class) (take l.its-index ms) ≡ false)
