use Rattle.string_literals.proofs.LiteralLaws.{FirstNumbered}
use Rattle.string_literals.proofs.file.file_numbers.Given as goal

abbrev pub invariant-loop-entry : goal.invariant-loop-entry
invariant-loop-entry l = FirstNumbered l.fn.known l.known l.pool l.entry-index l.numbers.items l.by_text.items
