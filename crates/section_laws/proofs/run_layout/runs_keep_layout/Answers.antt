use Rattle.section_laws.proofs.run_layout.RunLemmas.{runs_keep_layout}
use Rattle.section_laws.proofs.run_layout.runs_keep_layout.Goals as goal

pub returns : goal.returns
returns g c = runs_keep_layout g.C.ThreadCode.code
