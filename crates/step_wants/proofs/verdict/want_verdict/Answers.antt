use Rattle.std.proofs.Common.{rules}
use Rattle.step_wants.proofs.verdict.want_verdict.Goals as goal

pub returns-in-Reference : goal.returns-in-Reference
returns-in-Reference g c = search (rules, c.reference_verdict.ensures (g.W.MethodWorld.environment c.args.world.now))

pub returns-in-ArrayOf : goal.returns-in-ArrayOf
returns-in-ArrayOf g c = search (rules, c.array_of_kind_verdict.ensures (g.W.MethodWorld.environment c.args.world.now))

pub returns-in-Array : goal.returns-in-Array
returns-in-Array g c = search (rules, c.array_verdict.ensures (g.W.MethodWorld.environment c.args.world.now))

pub returns-in-ArrayOfReferences : goal.returns-in-ArrayOfReferences
returns-in-ArrayOfReferences g c =
    search (rules, c.array_of_references_verdict.ensures (g.W.MethodWorld.environment c.args.world.now))
