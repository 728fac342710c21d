use Rattle.link_members.specs.Members.{all_members_rules}
use Rattle.link_members.proofs.MemberLaws.{gives_kept}
use Rattle.link_members.proofs.members.check_texts.Goals as goal

pub returns : goal.returns
returns c = gives_kept (all_members_rules c.args.lookup.now.units) c.check_declared.result c.check_declared.ensures
