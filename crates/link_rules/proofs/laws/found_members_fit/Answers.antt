use Rattle.link_rules.proofs.Looked.{field_fits, method_fits}
use Rattle.link_rules.proofs.laws.found_members_fit.Goals as goal

pub returns : goal.returns
returns c = record { field = field_fits; method = method_fits }
