use Rattle.link_rules.specs.Classes.{classes_of}
use Rattle.member_lookup.proofs.FoundLaws.{special_selects, special_stays, have_numbers}
use Rattle.member_lookup.proofs.lookup.MemberLookup.special.Goals as goal

pub returns-then-selects_from : goal.returns-then-selects_from
returns-then-selects_from c = λ r d are is.
    let cs = classes_of c.args.self.now.units in
    special_selects cs c.args.this r d c.superclass-superclass.result c.args.found c.selects_from.result c.selected.result c.superclass-superclass.ensures.superclass is (c.selects_from.ensures r are) c.if-selects_from.true (c.selected.ensures r (have_numbers c.args.self.now c.args.reference r are))

pub returns-else-selects_from : goal.returns-else-selects_from
returns-else-selects_from c = λ r d are is.
    let cs = classes_of c.args.self.now.units in
    special_stays cs c.args.this r d c.superclass-superclass.result c.args.found c.selects_from.result c.superclass-superclass.ensures.superclass is (c.selects_from.ensures r are) c.if-selects_from.false
