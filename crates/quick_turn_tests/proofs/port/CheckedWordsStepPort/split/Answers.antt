use Rattle.std.proofs.Common.{refl, ap}
use Rattle.heap_words.specs.declared.areas.Area.TheVariants.{Control}
use Rattle.plain_words.specs.Table.{words_in}
use Rattle.quick_turn_tests.proofs.port.CheckedWordsStepPort.split.Goals as goal

pub returns-clause-made : goal.returns-clause-made
returns-clause-made g c = (words_in c.args.self.now.words (Control 0), (tt, record { answers = refl; leaves = ap words_in c.note.ensures }))
