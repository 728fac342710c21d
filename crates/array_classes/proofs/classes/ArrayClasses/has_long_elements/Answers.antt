use Rattle.std.proofs.Common.{Some, ap, ◌∙◌}
use Rattle.link_rules.specs.Classes.{classes_of}
use Rattle.link_rules.specs.Names.{program_names, array_numbered}
use Rattle.array_classes.proofs.Numbered.{longs_are}
use Rattle.array_classes.proofs.classes.ArrayClasses.has_long_elements.Goals as goal

pub returns : goal.returns
returns c = λ us arrays.
    ap (λ b. Some b) c.has_longs.ensures ∙ longs_are (classes_of us) c.in_ok-kind.kind (array_numbered (program_names us) c.args.class) (c.in_ok-kind.ensures us arrays.are)
