use Rattle.written_words.proofs.settled_words.ReadLemmas.{reads_agree}
use Rattle.written_words.proofs.settled_words.reads_agree.Goals as goal

pub returns : goal.returns
returns g c = reads_agree g.C.ThreadCode.code
