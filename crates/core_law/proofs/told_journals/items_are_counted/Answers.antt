use Rattle.core_law.proofs.told_journals.SizeLemmas.{items_are_counted}
use Rattle.core_law.proofs.told_journals.items_are_counted.Goals as goal

pub returns : goal.returns
returns g c = items_are_counted g.C.ThreadCode.code
