use Rattle.std.proofs.Common.{subst}
use Rattle.member_lookup.specs.Found.{IsLookup}
use Rattle.member_lookup.proofs.FoundLaws.{virtuals_are}
use Rattle.member_lookup.proofs.lookup.MemberLookup.virtuals.Goals as goal

pub returns : goal.returns
returns c =
    let l = c.self.inside in
    let is = subst (λ p. IsLookup l.orders p l.holders.items l.initializer l.tables) c.self.view_is c.self.invariant in
    virtuals_are l.orders c.args.self.now l.holders.items l.initializer l.tables is c.args.name c.args.descriptor c.declarers.result.now c.declarers.ensures
