use Rattle.table_kind_tests.specs.Kinds.{AreAllOn}
use Rattle.table_kind_tests.proofs.kinds.turns_in_order.Given as goal

abbrev pub invariant-loop-item : goal.invariant-loop-item
invariant-loop-item g l = AreAllOn g.C.ThreadCode.state g.C.ThreadCode.saved g.C.ThreadCode.code l.table l.both.main l.both.other
