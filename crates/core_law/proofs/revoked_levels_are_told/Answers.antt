use Rattle.core_law.proofs.RevokedLemmas.{revoked_levels_are_told}
use Rattle.core_law.proofs.revoked_levels_are_told.Goals as goal

pub returns : goal.returns
returns g c = revoked_levels_are_told g.C.ThreadCode.code
