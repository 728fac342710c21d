use Rattle.section_laws.proofs.run_threads.NumberLemmas.{threads_are_new}
use Rattle.section_laws.proofs.run_threads.threads_are_new.Goals as goal

pub returns : goal.returns
returns g c = threads_are_new g.C.ThreadCode.code
