use Rattle.section_laws.proofs.run_parts.NextStepLemmas.{parts_decide}
use Rattle.section_laws.proofs.run_parts.parts_decide.Goals as goal

pub returns : goal.returns
returns g c = parts_decide g.C.ThreadCode.code
