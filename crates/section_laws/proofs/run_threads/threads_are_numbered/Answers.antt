use Rattle.section_laws.proofs.run_threads.NumberLemmas.{threads_are_numbered}
use Rattle.section_laws.proofs.run_threads.threads_are_numbered.Goals as goal

pub returns : goal.returns
returns g c = threads_are_numbered g.C.ThreadCode.code
