use Rattle.link_rules.proofs.Looked.{selected_fits}
use Rattle.link_rules.proofs.laws.selected_methods_fit.Goals as goal

pub returns : goal.returns
returns c = selected_fits
