use Rattle.section_laws.proofs.run_bits.BitLemmas.{runs_are_in_bits}
use Rattle.section_laws.proofs.run_bits.runs_are_in_bits.Goals as goal

pub returns : goal.returns
returns g c = runs_are_in_bits g.C.ThreadCode.code
