use Rattle.written_words.proofs.UndoneLemmas.{undone_levels_have_written_nothing}
use Rattle.written_words.proofs.undone_levels_have_written_nothing.Goals as goal

pub returns : goal.returns
returns g c = undone_levels_have_written_nothing g.C.ThreadCode.code
