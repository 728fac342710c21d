use Rattle.rules.specs.Rules.{HoldBelow}
use Rattle.instructions.specs.declared.what.Instr.{Instr}
use Rattle.instructions.specs.declared.what.Target.{Target}
use Rattle.link_rules.specs.LinkRules.{what_rules}
use Rattle.use_rules.proofs.uses.check_steps.Given as goal

abbrev pub invariant-loop-step : goal.invariant-loop-step
invariant-loop-step l = HoldBelow (λ i (s : Instr Target). what_rules l.names.classes l.names.place l.names.pool s.what) l.steps l.step-index
