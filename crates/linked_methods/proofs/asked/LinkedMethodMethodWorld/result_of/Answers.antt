use Rattle.linked_methods.specs.Members.{member_numbered}
use Rattle.linked_methods.proofs.MethodLaws.{is_called, not_called, result_is, no_result}
use Rattle.linked_methods.proofs.asked.LinkedMethodMethodWorld.result_of.Goals as goal

pub returns-in-Some : goal.returns-in-Some
returns-in-Some c =
    let us = c.args.self.now.classes.world.now in
    let id = c.args.method in
    result_is us id c.in-Some.method (member_numbered us id) (is_called us id c.in-Some.method c.in-Some.ensures)

pub returns-in-None : goal.returns-in-None
returns-in-None c =
    let us = c.args.self.now.classes.world.now in
    no_result us c.args.method (not_called us c.args.method c.in-None.ensures)
