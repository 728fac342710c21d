use Rattle.std.proofs.Common.{◌≡◌, drop}
use Rattle.command_words.specs.Options.{number_given}
use Rattle.command_words.proofs.given.number_given.Given as goal

abbrev pub invariant-loop-option : goal.invariant-loop-option
invariant-loop-option l = number_given l.of l.given ≡ number_given l.of (drop l.option-index l.given)
