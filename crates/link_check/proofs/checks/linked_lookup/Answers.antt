use Rattle.std.proofs.Common.{◌≡◌}
use Rattle.class_texts.specs.Texts.{ProgramTexts}
use Rattle.link_rules.specs.LinkRules.{link_rules}
use Rattle.link_rules.proofs.Sharp.{sharp_link}
use Rattle.class_supers.proofs.RuleLaws.{broken_is_refused}
use Rattle.link_check.proofs.checks.linked_lookup.Goals as goal

pub returns-clause-first : goal.returns-clause-first
returns-clause-first c = broken_is_refused (link_rules c.args.units.now) (sharp_link c.args.units.now) (λ (l : ProgramTexts). l.units ≡ c.args.units.now) c.all_checked.result c.all_checked.ensures
