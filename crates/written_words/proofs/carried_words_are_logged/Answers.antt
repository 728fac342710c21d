use Rattle.written_words.proofs.LoggedLemmas.{carried_words_are_logged}
use Rattle.written_words.proofs.carried_words_are_logged.Goals as goal

pub returns : goal.returns
returns g c = carried_words_are_logged g.C.ThreadCode.code
