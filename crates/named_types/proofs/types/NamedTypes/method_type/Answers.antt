use Rattle.std.proofs.Common.{◌≤◌, sum_by, subst, sym, ◌∙◌, arith}
use Rattle.link_rules.specs.Names.{program_names}
use Rattle.link_types.specs.Types.{words_of_value}
use Rattle.named_types.proofs.TextLaws.{types_are_short}
use Rattle.named_types.proofs.types.NamedTypes.method_type.Goals as goal

pub words_of_types-words-requires : goal.words_of_types-words-requires
words_of_types-words-requires c =
    let few = types_are_short (program_names c.args.self.now) c.in-Some.shape.parameters in
    subst (λ types. sum_by words_of_value types ≤ 255) (sym (c.as_slice.ensures ∙ c.in_ok-parameters.ensures)) (omega (arith, few, c.in-Some.ensures.found.descriptor.good.words))
