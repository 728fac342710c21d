use Rattle.section_laws.proofs.opened_saves.RunLemmas.{saves_are_as_opened}
use Rattle.section_laws.proofs.opened_saves.saves_are_as_opened.Goals as goal

pub returns : goal.returns
returns g c = saves_are_as_opened g.C.ThreadCode.code
