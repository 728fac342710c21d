use Rattle.fixed_objects.proofs.OpeningLemmas.{no_words}
use Rattle.fixed_objects.proofs.laws.only_fixed_objects_have_words.Goals as goal

pub returns : goal.returns
returns g c = no_words {S = g.C.ThreadCode.State}
