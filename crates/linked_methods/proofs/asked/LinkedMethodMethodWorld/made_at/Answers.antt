use Rattle.std.proofs.Common.{sym, ◌∙◌, ap}
use Rattle.std.specs.Option.{option_map_or}
use Rattle.builtin_world.specs.declared.number.TheConstants.{OBJECT}
use Rattle.instructions.specs.declared.what.Instr.{Instr}
use Rattle.instructions.specs.declared.what.Target.{Target}
use Rattle.link_types.specs.declared.types.ObjectType.TheVariants.{Class}
use Rattle.link_rules.specs.Operands.{operand}
use Rattle.type_rules.specs.Environments.{made_by}
use Rattle.linked_methods.proofs.asked.LinkedMethodMethodWorld.made_at.Goals as goal

pub returns-in-Some : goal.returns-in-Some
returns-in-Some c =
    let m = c.args.self.now in
    ap (λ o. option_map_or (λ (i : Instr Target). made_by (operand m.classes.world.now m.id.class) i.what) o (Class OBJECT)) (sym c.in-Some.ensures) ∙ sym c.made_by.ensures

pub returns-in-None : goal.returns-in-None
returns-in-None c =
    let m = c.args.self.now in
    ap (λ o. option_map_or (λ (i : Instr Target). made_by (operand m.classes.world.now m.id.class) i.what) o (Class OBJECT)) (sym c.in-None.ensures)
