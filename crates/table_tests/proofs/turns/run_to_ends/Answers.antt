use Rattle.table_cases.proofs.SliceLemmas.{only_begins}
use Rattle.table_tests.proofs.turns.run_to_ends.Goals as goal

pub rounds-requires-clause-other : goal.rounds-requires-clause-other
rounds-requires-clause-other g c κs within =
    (only_begins g.C.ThreadCode.state g.C.ThreadCode.saved g.C.ThreadCode.code c.args.table.now c.args.slice.born.items c.in_ok-other.other c.in_ok-other.ensures c.requires.born).0
