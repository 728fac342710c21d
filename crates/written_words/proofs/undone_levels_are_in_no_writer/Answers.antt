use Rattle.written_words.proofs.UndoneLemmas.{undone_levels_are_in_no_writer}
use Rattle.written_words.proofs.undone_levels_are_in_no_writer.Goals as goal

pub returns : goal.returns
returns g c = undone_levels_are_in_no_writer g.C.ThreadCode.code
