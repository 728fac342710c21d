use Rattle.std.proofs.Common.{subst}
use Rattle.link_rules.specs.Units.{AreUnits}
use Rattle.link_rules.specs.LinkRules.{link_rules}
use Rattle.linker.proofs.world.World.is_linked.Goals as goal

pub returns-clause-decoded : goal.returns-clause-decoded
returns-clause-decoded c = subst AreUnits c.self.view_is c.self.invariant.decoded

pub returns-clause-linked : goal.returns-clause-linked
returns-clause-linked c = subst (λ us. (link_rules us).Hold) c.self.view_is c.self.invariant.linked
