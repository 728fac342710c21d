use Rattle.written_words.proofs.noted_words.RunLemmas.{noted_words_are_own}
use Rattle.written_words.proofs.noted_words.noted_words_are_own.Goals as goal

pub returns : goal.returns
returns g c = noted_words_are_own g.C.ThreadCode.code
