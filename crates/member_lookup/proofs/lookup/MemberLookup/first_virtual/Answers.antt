use Rattle.std.proofs.Common.{ap, slice_get, ◌∙◌}
use Rattle.member_lookup.proofs.FoundLaws.{first_is_virtual}
use Rattle.member_lookup.proofs.lookup.MemberLookup.first_virtual.Goals as goal

pub returns : goal.returns
returns c =
    c.copied.ensures ∙ c.first.ensures.value ∙ ap (λ ms. slice_get ms 0) c.virtuals.ensures ∙ first_is_virtual c.args.self.now c.args.name c.args.descriptor
