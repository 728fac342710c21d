use Rattle.std.proofs.Common.{rules, tests, ◌==◌}
use Rattle.std.proofs.lemmas.Iterator.{YieldsList-from_slice}
use Rattle.std.proofs.lemmas.Iterator.Search.{find_from_yields_List}
use Rattle.member_table.specs.declared.table.MemberRow.{MemberRow}
use Rattle.member_lookup.proofs.lookup.first_of_class.Goals as goal

pub returns : goal.returns
returns c =
    let found = find_from_yields_List (λ (m : MemberRow). m.class == c.args.class) _ _ c.find.result c.find.ensures.ran
    (YieldsList-from_slice c.args.members.now (cc)) (λ x b q k. search (rules, tests)) in
    cc
