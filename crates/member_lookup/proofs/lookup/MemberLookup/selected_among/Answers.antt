use Rattle.std.proofs.Common.{subst}
use Rattle.member_lookup.specs.Found.{IsLookup}
use Rattle.member_lookup.proofs.FoundLaws.{selected_is}
use Rattle.member_lookup.proofs.lookup.MemberLookup.selected_among.Goals as goal

pub returns : goal.returns
returns c = λ name descriptor r mine have.
    let l = c.self.inside in
    let is = subst (λ p. IsLookup l.orders p l.holders.items l.initializer l.tables) c.self.view_is c.self.invariant in
    selected_is l.orders c.args.self.now l.holders.items l.initializer l.tables is name descriptor r have c.read_row.result c.find_first.result c.args.methods.now c.args.class c.of.result.now.superclasses
    c.read_row.ensures c.find_first.ensures mine c.of.ensures.upward
