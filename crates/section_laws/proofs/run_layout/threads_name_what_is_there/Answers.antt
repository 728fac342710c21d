use Rattle.section_laws.proofs.run_layout.RunLemmas.{names_there}
use Rattle.section_laws.proofs.run_layout.threads_name_what_is_there.Goals as goal

pub returns : goal.returns
returns g c = names_there g.C.ThreadCode.code
