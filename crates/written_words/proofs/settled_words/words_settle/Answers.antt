use Rattle.written_words.proofs.settled_words.RunLemmas.{words_settle}
use Rattle.written_words.proofs.settled_words.words_settle.Goals as goal

pub returns : goal.returns
returns g c = words_settle g.C.ThreadCode.code
