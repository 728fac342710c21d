use Rattle.rules.specs.Rules.{HoldBelow}
use Rattle.link_rules.specs.LinkRules.{code_use_rules}
use Rattle.use_rules.proofs.uses.check_codes.Given as goal

abbrev pub invariant-loop-code : goal.invariant-loop-code
invariant-loop-code l = HoldBelow (λ j code. code_use_rules l.names.classes l.names.place l.names.pool code) l.codes l.code-index
