use Rattle.written_words.proofs.RunLemmas.{tags_say_writers}
use Rattle.written_words.proofs.tags_say_writers.Goals as goal

pub returns : goal.returns
returns g c = tags_say_writers g.C.ThreadCode.code
