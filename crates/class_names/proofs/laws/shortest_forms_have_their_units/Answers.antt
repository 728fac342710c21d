use Rattle.class_names.proofs.FormLaws.{encoded_formed, units_again}
use Rattle.class_names.proofs.laws.shortest_forms_have_their_units.Goals as goal

pub returns : goal.returns
returns c = record { formed = encoded_formed; units = units_again }
