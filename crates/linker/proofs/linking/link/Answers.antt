use Rattle.std.proofs.Common.{◌≡◌}
use Rattle.link_rules.specs.LinkRules.{link_rules}
use Rattle.link_rules.proofs.Sharp.{sharp_link}
use Rattle.linker.specs.Tables.{HasOrder}
use Rattle.class_supers.proofs.RuleLaws.{broken_is_refused}
use Rattle.linker.proofs.linking.link.Goals as goal

pub returns-clause-first : goal.returns-clause-first
returns-clause-first c =
    let us = c.args.units.items in
    broken_is_refused (link_rules us) (sharp_link us) (λ world. (world ≡ us) × HasOrder us) c.linked_world.result c.linked_world.ensures
