use Rattle.rules.specs.Rules.{HoldBelow}
use Rattle.link_rules.specs.Classes.{classes_of}
use Rattle.link_rules.specs.LinkRules.{uses_rules}
use Rattle.use_rules.proofs.uses.check_uses.Given as goal

abbrev pub invariant-loop-place : goal.invariant-loop-place
invariant-loop-place l = HoldBelow (uses_rules (classes_of l.lookup.units)) l.lookup.units l.place
