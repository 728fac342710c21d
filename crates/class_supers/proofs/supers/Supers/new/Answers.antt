use Rattle.std.proofs.Common.{◌≡◌}
use Rattle.link_rules.specs.LinkRules.{hierarchy_rules}
use Rattle.class_supers.proofs.RuleLaws.{broken_is_refused, sharp_hierarchy}
use Rattle.class_supers.proofs.supers.Supers.new.Goals as goal

pub returns-clause-first : goal.returns-clause-first
returns-clause-first c =
    broken_is_refused (hierarchy_rules c.args.units.now) (sharp_hierarchy c.args.units.now) (λ supers. supers ≡ c.args.units.now) c.number_checked.result c.number_checked.ensures
