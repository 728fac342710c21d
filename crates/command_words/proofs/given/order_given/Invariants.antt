use Rattle.std.proofs.Common.{◌≡◌, drop}
use Rattle.command_words.specs.Options.{order_given}
use Rattle.command_words.proofs.given.order_given.Given as goal

abbrev pub invariant-loop-option : goal.invariant-loop-option
invariant-loop-option l = order_given l.given ≡ order_given (drop l.option-index l.given)
