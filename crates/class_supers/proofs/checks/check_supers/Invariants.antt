use Rattle.rules.specs.Rules.{HoldBelow}
use Rattle.link_rules.specs.Classes.{classes_of}
use Rattle.link_rules.specs.LinkRules.{supers_rules}
use Rattle.class_supers.proofs.checks.check_supers.Given as goal

abbrev pub invariant-loop-place : goal.invariant-loop-place
invariant-loop-place l = HoldBelow (supers_rules (classes_of l.supers)) l.supers l.place
