use Rattle.written_words.proofs.UndoneLemmas.{undone_sections_have_written_nothing}
use Rattle.written_words.proofs.undone_sections_have_written_nothing.Goals as goal

pub returns : goal.returns
returns g c = undone_sections_have_written_nothing g.C.ThreadCode.code
