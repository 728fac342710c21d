use Rattle.std.proofs.Common.{◌≡◌, ap, ◌∙◌, arith}
use Rattle.type_lists.specs.Parts.{word_of}
use Rattle.type_lists.proofs.parts.word_in.Goals as goal

pub returns-in_default : goal.returns-in_default
returns-in_default c =
    let is : 3 ≡ c.args.height = omega (arith, c.requires) in
    c.word_in_high.ensures ∙ ap (λ k. word_of c.args.parts.now k c.args.part c.args.place) is
