use Rattle.std.proofs.Common.{◌∙◌, subst}
use Rattle.member_lookup.specs.Found.{IsLookup}
use Rattle.member_lookup.proofs.FinalLaws.{final_is}
use Rattle.member_lookup.proofs.lookup.MemberLookup.has_final.Goals as goal

pub returns : goal.returns
returns c = λ r have.
    let l = c.self.inside in
    let is = subst (λ p. IsLookup l.orders p l.holders.items l.initializer l.tables) c.self.view_is c.self.invariant in
    c.any_final.ensures
    ∙ final_is l.orders c.args.self.now l.holders.items l.initializer l.tables is c.args.name c.args.descriptor r have c.declarers-methods.result.now c.args.class c.of.result.now.superclasses
    c.declarers-methods.ensures c.of.ensures.upward
