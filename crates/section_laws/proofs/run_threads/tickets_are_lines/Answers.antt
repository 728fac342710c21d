use Rattle.section_laws.proofs.run_threads.LineLemmas.{tickets_are_lines}
use Rattle.section_laws.proofs.run_threads.tickets_are_lines.Goals as goal

pub returns : goal.returns
returns g c = tickets_are_lines g.C.ThreadCode.code
