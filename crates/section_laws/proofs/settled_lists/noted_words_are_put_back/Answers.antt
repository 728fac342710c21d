use Rattle.section_laws.proofs.settled_lists.PartLemmas.{noted_back}
use Rattle.section_laws.proofs.settled_lists.noted_words_are_put_back.Goals as goal

pub returns : goal.returns
returns g = noted_back
