use Rattle.std.proofs.Common.{subst}
use Rattle.member_lookup.specs.Found.{IsLookup}
use Rattle.member_lookup.proofs.FoundLaws.{field_is}
use Rattle.member_lookup.proofs.lookup.MemberLookup.found_field.Goals as goal

pub returns : goal.returns
returns c = λ r are.
    let l = c.self.inside in
    let is = subst (λ p. IsLookup l.orders p l.holders.items l.initializer l.tables) c.self.view_is c.self.invariant in
    field_is l.orders c.args.self.now l.holders.items l.initializer l.tables c.args.reference r is are c.read_row.result c.find_first.result c.declarers-fields.result.now c.read_row.ensures
    c.of.result.now.fields c.find_first.ensures c.declarers-fields.ensures c.of.ensures.fields
