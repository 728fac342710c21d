use Rattle.std.proofs.Common.{sym, ◌∙◌}
use Rattle.link_rules.specs.Names.{program_names, array_numbered}
use Rattle.array_classes.proofs.Numbered.{innermost_elements, array_elements}
use Rattle.array_classes.proofs.classes.ArrayClasses.element_class.Goals as goal

pub returns-then-kind-gt1 : goal.returns-then-kind-gt1
returns-then-kind-gt1 c = λ us arrays.
    let kind = c.in_ok-kind.ensures us arrays.are in
    let its = array_elements (program_names us) arrays.are.names arrays.are.named c.in_ok-kind.kind kind.0 (array_numbered (program_names us) c.args.class) kind.2 kind.1 c.if-kind-gt1.true in
    c.number.ensures us its.text arrays.are its.spells ∙ sym its.number

pub returns : goal.returns
returns c = λ us arrays.
    let kind = c.in_ok-kind.ensures us arrays.are in
    c.class_in.ensures ∙ sym (innermost_elements (program_names us) arrays.are.names arrays.are.named c.in_ok-kind.kind kind.0 (array_numbered (program_names us) c.args.class) kind.2 kind.1 c.if-kind-gt1.false)
