use Rattle.rules.specs.Rules.{HoldBelow}
use Rattle.access_flags.specs.Flags.{has}
use Rattle.link_rules.specs.Classes.{classes_of, member_of_file}
use Rattle.link_rules.specs.LinkRules.{declared_method_rules}
use Rattle.member_rules.proofs.methods.check_methods.Given as goal

abbrev pub invariant-loop-method : goal.invariant-loop-method
invariant-loop-method l = HoldBelow (λ i m. declared_method_rules (classes_of l.lookup.units) l.place (has l.unit.file.flags 512) (member_of_file l.unit.file.pool m)) l.method-items l.method-index
