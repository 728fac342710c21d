use Rattle.opening_cores.proofs.OpeningLemmas.{openings_have_no_tags}
use Rattle.opening_cores.proofs.openings_have_no_tags.Goals as goal

pub returns : goal.returns
returns g c = openings_have_no_tags
