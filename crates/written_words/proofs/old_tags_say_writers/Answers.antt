use Rattle.written_words.proofs.RunLemmas.{old_tags_say_writers}
use Rattle.written_words.proofs.old_tags_say_writers.Goals as goal

pub returns : goal.returns
returns g c = old_tags_say_writers g.C.ThreadCode.code
