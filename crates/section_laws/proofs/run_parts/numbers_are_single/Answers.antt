use Rattle.section_laws.proofs.run_parts.NumberLemmas.{numbers_are_single}
use Rattle.section_laws.proofs.run_parts.numbers_are_single.Goals as goal

pub returns : goal.returns
returns g c = numbers_are_single g.C.ThreadCode.code
