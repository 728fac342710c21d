use Rattle.rules.specs.Rules.{HoldBelow}
use Rattle.link_rules.specs.LinkRules.{caught_rules}
use Rattle.use_rules.proofs.uses.check_handlers.Given as goal

abbrev pub invariant-loop-handler : goal.invariant-loop-handler
invariant-loop-handler l = HoldBelow (λ i h. caught_rules l.names.classes l.names.place l.names.pool h) l.handlers l.handler-index
