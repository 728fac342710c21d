use Rattle.section_laws.proofs.run_threads.EndLemmas.{ends_are_known}
use Rattle.section_laws.proofs.run_threads.ends_are_known.Goals as goal

pub returns : goal.returns
returns g c = ends_are_known g.C.ThreadCode.code
