use Rattle.std.specs.List.{All}
use Rattle.command_words.specs.Options.{IsInRange}
use Rattle.command_words.proofs.GivenLaws.{AreReadTo}
use Rattle.command_words.proofs.given.options_of.Given as goal

abbrev pub invariant-loop-word : goal.invariant-loop-word
invariant-loop-word l = record {
  read : AreReadTo l.words l.given.items l.word-index;
  ranges : All IsInRange l.given.items;
}
