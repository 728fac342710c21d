use Rattle.std.proofs.Common.{sym, ◌∙◌}
use Rattle.linked_methods.specs.Members.{member_numbered}
use Rattle.linked_methods.proofs.MethodLaws.{is_called, not_called, parameters_are, no_parameters}
use Rattle.linked_methods.proofs.asked.LinkedMethodMethodWorld.parameters.Goals as goal

pub returns-in-Some : goal.returns-in-Some
returns-in-Some c =
    let us = c.args.self.now.classes.world.now in
    let id = c.args.method in
    parameters_are us id c.in-Some.method (member_numbered us id) (is_called us id c.in-Some.method c.in-Some.ensures) ∙ sym c.as_slice.ensures

pub returns-in-None : goal.returns-in-None
returns-in-None c =
    let us = c.args.self.now.classes.world.now in
    no_parameters us c.args.method (not_called us c.args.method c.in-None.ensures)
