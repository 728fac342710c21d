use Rattle.builtin_world.proofs.LawLemmas.{subclasses_keep_words}
use Rattle.builtin_world.proofs.laws.subclasses_keep_words.Goals as goal

pub returns : goal.returns
returns c = subclasses_keep_words
