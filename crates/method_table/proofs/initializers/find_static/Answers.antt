use Rattle.std.proofs.Common.{rules, tests}
use Rattle.std.proofs.lemmas.Iterator.{YieldsList-from_slice}
use Rattle.std.proofs.lemmas.Iterator.Search.{find_from_yields_List}
use Rattle.method_table.specs.Rows.{initializes}
use Rattle.method_table.proofs.initializers.find_static.Goals as goal

pub returns : goal.returns
returns c =
    let found = find_from_yields_List (initializes c.args.name c.args.descriptor) _ _ c.find.result c.find.ensures.ran
    (YieldsList-from_slice c.args.members.now (cc)) (λ x b q k. search (rules, tests)) in
    cc
