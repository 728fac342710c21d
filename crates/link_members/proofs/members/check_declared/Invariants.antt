use Rattle.rules.specs.Rules.{HoldBelow}
use Rattle.link_rules.specs.Classes.{classes_of, class_of_unit}
use Rattle.link_rules.specs.LinkRules.{members_rules}
use Rattle.link_members.proofs.members.check_declared.Given as goal

abbrev pub invariant-loop-place : goal.invariant-loop-place
invariant-loop-place l = HoldBelow (λ k u. members_rules (classes_of l.lookup.units) k (class_of_unit u)) l.lookup.units l.place
