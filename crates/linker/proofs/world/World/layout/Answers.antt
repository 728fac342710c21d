use Rattle.std.proofs.Common.{subst, arith}
use Rattle.operand_table.specs.Sources.{AreArraysOf}
use Rattle.linker.proofs.world.World.layout.Goals as goal

pub layout-requires : goal.layout-requires
layout-requires c =
    let are = subst (λ vs. AreArraysOf vs c.self.inside.tables.classes.arrays) c.self.view_is c.self.invariant.are.classes.arrays in
    omega (arith, c.class_count-classes.ensures.few c.args.self.now are)
