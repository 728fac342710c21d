use Rattle.java_laws.proofs.OpeningLemmas.{openings_start_main}
use Rattle.java_laws.proofs.laws.openings_start_main.Goals as goal

pub returns : goal.returns
returns c = openings_start_main
