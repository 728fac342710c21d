use Rattle.std.proofs.Common.{ap, sym, ◌∙◌}
use Rattle.class_names.specs.Descriptor.{base_text}
use Rattle.link_rules.specs.Arrays.{array_of}
use Rattle.link_rules.specs.Names.{program_names}
use Rattle.array_kinds.specs.Kinds.{array_of_type}
use Rattle.array_kinds.proofs.Names.{of_none, of_spells}
use Rattle.array_classes.proofs.Numbered.{too_long}
use Rattle.array_classes.proofs.classes.ArrayClasses.array_of.Goals as goal

pub returns-in_err-array_of : goal.returns-in_err-array_of
returns-in_err-array_of c = λ us arrays name is typed.
    let longest = of_none (program_names us) name is (ap array_of_type typed ∙ sym c.in_err-array_of.ensures) in
    c.from_residual.ensures ∙ sym (too_long us c.args.self.now.numbers arrays.are (array_of name) (base_text longest.base) longest.longer)

pub returns : goal.returns
returns c = λ us arrays name is typed.
    c.number.ensures us (array_of name) arrays.are (of_spells (program_names us) name c.in_ok-array_of.field-0 is (ap array_of_type typed ∙ sym c.in_ok-array_of.ensures))
