use Rattle.std.proofs.Common.{subst}
use Rattle.start_objects.specs.Start.{AreStartObjectsOf}
use Rattle.linker.proofs.world.World.static_value.Goals as goal

pub returns : goal.returns
returns c = c.static_value.ensures c.args.self.now (subst (λ vs. AreStartObjectsOf vs c.self.inside.tables.classes.start) c.self.view_is c.self.invariant.are.classes.start)
