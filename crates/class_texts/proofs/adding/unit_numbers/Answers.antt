use Rattle.std.proofs.Common.{subst}
use Rattle.builtin_world.specs.BuiltinClass.{rows}
use Rattle.class_texts.specs.Texts.{KnowsClasses}
use Rattle.class_texts.proofs.AddingLaws.{classes_stay}
use Rattle.class_texts.proofs.adding.unit_numbers.Goals as goal

pub returns-clause-library : goal.returns-clause-library
returns-clause-library c =
    classes_stay c.add_classes.new.numbers c.add_units.new.numbers rows c.in_ok-add_units.ensures.kept
    (subst (KnowsClasses c.add_classes.new.numbers) c.builtins.ensures.rows c.in_ok-add_classes.ensures.known)
