use Rattle.std.proofs.Common.{subst}
use Rattle.member_lookup.specs.Found.{IsLookup}
use Rattle.member_lookup.proofs.FoundLaws.{constructs_is}
use Rattle.member_lookup.proofs.lookup.MemberLookup.is_constructor.Goals as goal

pub returns : goal.returns
returns c = λ r are.
    let l = c.self.inside in
    let is = subst (λ p. IsLookup l.orders p l.holders.items l.initializer l.tables) c.self.view_is c.self.invariant in
    constructs_is l.orders c.args.self.now l.holders.items l.initializer l.tables c.args.reference r is are
