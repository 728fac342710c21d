use Rattle.written_words.proofs.OpenLemmas.{doomed_writers_are_open}
use Rattle.written_words.proofs.doomed_writers_are_open.Goals as goal

pub returns : goal.returns
returns g c = doomed_writers_are_open g.C.ThreadCode.code
