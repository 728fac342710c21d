use Rattle.written_words.proofs.LevelLemmas.{open_levels_are_of_sections}
use Rattle.written_words.proofs.open_levels_are_of_sections.Goals as goal

pub returns : goal.returns
returns g c = open_levels_are_of_sections g.C.ThreadCode.code
