use Rattle.section_laws.proofs.own_sections.PinLemmas.{pinned_levels_stay}
use Rattle.section_laws.proofs.own_sections.pinned_levels_stay.Goals as goal

pub returns : goal.returns
returns g c = pinned_levels_stay g.C.ThreadCode.code
