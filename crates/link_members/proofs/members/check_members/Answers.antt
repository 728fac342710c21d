use Rattle.link_members.proofs.MemberLaws.{members_refused}
use Rattle.link_members.proofs.members.check_members.Goals as goal

pub returns-clause-first : goal.returns-clause-first
returns-clause-first c = members_refused c.args.lookup.now.units c.check_texts.result c.check_texts.ensures
