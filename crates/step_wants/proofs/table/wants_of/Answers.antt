use Rattle.std.proofs.Common.{rules}
use Rattle.step_wants.proofs.table.wants_of.Goals as goal

pub returns-in-Class : goal.returns-in-Class
returns-in-Class g c =
    search (rules, c.class_wants.ensures (g.W.MethodWorld.environment c.args.world.now) c.in-Class.field-1)
