use Rattle.std.proofs.Common.{◌∙◌, ap}
use Rattle.string_literals.specs.Literals.{kept_number}
use Rattle.string_literals.proofs.LiteralLaws.{number_right}
use Rattle.string_literals.proofs.literals.StringLiterals.number.Goals as goal

pub returns : goal.returns
returns c = λ us are.
    c.number_in_files.ensures ∙ ap (λ files. kept_number files c.args.file c.args.index) c.deref.ensures.value ∙ number_right us c.args.self.now are c.args.file c.args.index
