use Rattle.std.proofs.Common.{◌≡◌, sym, ap, ◌∙◌}
use Rattle.java_world.specs.Literals.{literal_in}
use Rattle.java_world.proofs.LiteralUnitLaws.{literal_at}
use Rattle.java_world.proofs.world.JavaWorld.units_of.Goals as goal

pub returns : goal.returns
returns c =
    let n = c.args.string in
    c.units_of_literal.ensures
    ∙ ap (λ literals. literal_in literals n) (c.deref.ensures.value ∙ c.self.invariant.1.are)
    ∙ literal_at c.self.inside.world.now n
    ∙ ap (λ a. Rattle.java_rows.specs.Units.literal_units a.units n) c.self.view_is
