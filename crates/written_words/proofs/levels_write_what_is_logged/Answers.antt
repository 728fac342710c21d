use Rattle.written_words.proofs.LoggedLemmas.{levels_write_what_is_logged}
use Rattle.written_words.proofs.levels_write_what_is_logged.Goals as goal

pub returns : goal.returns
returns g c = levels_write_what_is_logged g.C.ThreadCode.code
