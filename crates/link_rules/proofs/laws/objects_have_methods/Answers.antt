use Rattle.link_rules.proofs.Implementations.{have_methods, select_methods}
use Rattle.link_rules.proofs.laws.objects_have_methods.Goals as goal

pub returns : goal.returns
returns c = record { superclasses = select_methods; abstract_ones = have_methods }
