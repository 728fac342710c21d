use Rattle.std.proofs.Common.{◌≡◌, ◌∙◌, ap, subst, arith}
use Rattle.operand_table.specs.Table.{AreOperandsOf}
use Rattle.link_rules.specs.Classes.{number_of_file}
use Rattle.link_rules.specs.Operands.{operand}
use Rattle.linker.proofs.world.World.operand.Goals as goal

pub returns-in-Some : goal.returns-in-Some
returns-in-Some c =
    let us = c.args.self.now in
    let number : number_of_file c.in-Some.file ≡ c.args.class = omega (arith, c.in-Some.is, c.checked_sub.ensures) in
    let are = subst (λ vs. AreOperandsOf vs c.self.inside.tables.members.operands) c.self.view_is c.self.invariant.are.members.operands in
    c.operand.ensures us are ∙ ap (λ n. operand us n c.args.index) number
