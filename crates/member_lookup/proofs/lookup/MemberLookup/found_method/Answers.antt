use Rattle.std.proofs.Common.{subst}
use Rattle.member_lookup.specs.Found.{IsLookup}
use Rattle.member_lookup.proofs.FoundLaws.{constructor_is, method_is}
use Rattle.member_lookup.proofs.lookup.MemberLookup.found_method.Goals as goal

pub returns-then-self-reference : goal.returns-then-self-reference
returns-then-self-reference c = λ r are.
    let l = c.self.inside in
    let is = subst (λ p. IsLookup l.orders p l.holders.items l.initializer l.tables) c.self.view_is c.self.invariant in
    constructor_is l.orders c.args.self.now l.holders.items l.initializer l.tables c.args.reference r is are c.read_row.result c.first_of_class.result c.declarers-methods.result.now c.read_row.ensures
    c.if-self-reference.true c.first_of_class.ensures c.declarers-methods.ensures

pub returns : goal.returns
returns c = λ r are.
    let l = c.self.inside in
    let is = subst (λ p. IsLookup l.orders p l.holders.items l.initializer l.tables) c.self.view_is c.self.invariant in
    method_is l.orders c.args.self.now l.holders.items l.initializer l.tables c.args.reference r is are c.read_row-2.result c.find_first.result c.declarers-methods.result.now c.read_row-2.ensures
    c.of.result.now.methods c.if-self-reference.false c.find_first.ensures c.declarers-methods.ensures c.of.ensures.methods
