use Rattle.std.proofs.Common.{Some, ap, sym, ◌∙◌}
use Rattle.std.specs.Option.{option_map}
use Rattle.link_rules.specs.Names.{program_names, type_named}
use Rattle.array_classes.proofs.Numbered.{in_type}
use Rattle.array_classes.proofs.classes.ArrayClasses.array_type.Goals as goal

pub returns : goal.returns
returns c = λ us arrays.
    let kind = c.in_ok-kind.ensures us arrays.are in
    sym (ap (option_map (type_named (program_names us))) kind.1 ∙ ap (λ t. Some t) (in_type (program_names us) arrays.are.names arrays.are.named c.in_ok-kind.kind kind.0 kind.2))
