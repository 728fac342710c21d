use Rattle.member_lookup.proofs.lookup.MemberLookup.selected.Goals as goal

pub returns : goal.returns
returns c = λ r have. c.selected_among.ensures c.args.name c.args.descriptor r c.virtuals.ensures have
