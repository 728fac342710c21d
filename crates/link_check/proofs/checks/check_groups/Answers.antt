use Rattle.link_check.proofs.NameLaws.{unnamed}
use Rattle.link_check.proofs.checks.check_groups.Goals as goal

pub check_uses-requires-clause-unnamed : goal.check_uses-requires-clause-unnamed
check_uses-requires-clause-unnamed c = unnamed c.args.lookup.now.units c.requires.decoded
