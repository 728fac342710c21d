use Rattle.table_kind_tests.specs.Kinds.{AreAllOn}
use Rattle.table_kind_tests.proofs.kinds.turns_to.Given as goal

abbrev pub invariant-loop-turn : goal.invariant-loop-turn
invariant-loop-turn g l = AreAllOn g.C.ThreadCode.state g.C.ThreadCode.saved g.C.ThreadCode.code l.table l.both.main l.both.other
