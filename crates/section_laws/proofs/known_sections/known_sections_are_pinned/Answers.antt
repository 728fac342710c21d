use Rattle.section_laws.proofs.known_sections.KnownLemmas.{known_sections_are_pinned}
use Rattle.section_laws.proofs.known_sections.known_sections_are_pinned.Goals as goal

pub returns : goal.returns
returns g c = known_sections_are_pinned g.C.ThreadCode.code
