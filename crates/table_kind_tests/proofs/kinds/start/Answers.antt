use Rattle.std.proofs.Common.{rules}
use Rattle.table_kind_tests.proofs.KindLemmas.{alone_later, both_begin}
use Rattle.table_kind_tests.proofs.kinds.start.Goals as goal

pub returns-then-len-eq0 : goal.returns-then-len-eq0
returns-then-len-eq0 g c =
    both_begin g.C.ThreadCode.state g.C.ThreadCode.saved g.C.ThreadCode.code c.args.table.now 1 c.loop-turn.main c.in-Ok.slice c.in-Some.other c.loop-turn.invariant.1 c.in-Ok.ensures (search rules)

pub loop-turn-preserved : goal.loop-turn-preserved
loop-turn-preserved g c = (
  c.in-Ok.ensures.stands,
  alone_later g.C.ThreadCode.state g.C.ThreadCode.saved g.C.ThreadCode.code c.args.table.now 1 c.loop-turn.main c.in-Ok.slice c.loop-turn.invariant.1 c.in-Ok.ensures (search rules),
)
