use Rattle.string_literals.proofs.LiteralLaws.{FilesNumbered}
use Rattle.string_literals.proofs.literals.StringLiterals.new.Given as goal

abbrev pub invariant-loop-unit : goal.invariant-loop-unit
invariant-loop-unit l = FilesNumbered l.units l.unit-index l.known l.numbers.items
