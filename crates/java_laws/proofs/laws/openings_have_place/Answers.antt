use Rattle.java_laws.proofs.OpeningLemmas.{openings_have_place}
use Rattle.java_laws.proofs.laws.openings_have_place.Goals as goal

pub returns : goal.returns
returns c = openings_have_place
