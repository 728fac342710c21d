use Rattle.std.proofs.Common.{sym, ◌∙◌}
use Rattle.linked_methods.specs.Members.{member_numbered}
use Rattle.linked_methods.proofs.MethodLaws.{super_is}
use Rattle.linked_methods.proofs.asked.LinkedMethodMethodWorld.direct_super.Goals as goal

pub returns : goal.returns
returns c =
    let m = c.args.self.now in
    let us = m.classes.world.now in
    sym (c.super_class.ensures ∙ super_is us m.id (member_numbered us m.id) m.member_there)
