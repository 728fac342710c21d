use Rattle.rules.specs.Rules.{HoldBelow}
use Rattle.link_rules.specs.Classes.{classes_of}
use Rattle.link_rules.specs.LinkRules.{implementation_rules}
use Rattle.link_implementations.specs.Tested.{AreTested}
use Rattle.link_implementations.proofs.implementations.check_classes.Given as goal

abbrev pub invariant-loop-place : goal.invariant-loop-place
invariant-loop-place l = AreTested l.lookup l.memo.tested.items × HoldBelow (λ k u. implementation_rules (classes_of l.lookup.units) k u.file.flags) l.lookup.units l.place
