use Rattle.section_laws.proofs.run_parts.NumberLemmas.{handed_out_is_new}
use Rattle.section_laws.proofs.run_parts.handed_out_is_new.Goals as goal

pub returns : goal.returns
returns g c = handed_out_is_new g.C.ThreadCode.code
