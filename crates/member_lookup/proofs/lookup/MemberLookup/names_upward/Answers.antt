use Rattle.std.proofs.Common.{◌∙◌, ap, subst}
use Rattle.member_lookup.specs.Found.{IsLookup}
use Rattle.std.proofs.Common.{not, ◌==◌}
use Rattle.member_lookup.proofs.FoundLaws.{named_is}
use Rattle.member_lookup.proofs.lookup.MemberLookup.names_upward.Goals as goal

pub returns : goal.returns
returns c = λ r are.
    let l = c.self.inside in
    let is = subst (λ p. IsLookup l.orders p l.holders.items l.initializer l.tables) c.self.view_is c.self.invariant in
    ap (λ k. not (k == 0)) c.rank.ensures
    ∙ named_is l.orders c.args.self.now l.holders.items l.initializer l.tables c.args.reference r is are c.args.class c.of.result.now.superclasses c.of.ensures.upward
