use Rattle.type_laws.proofs.Reflexive.{go_to_themselves, same_means_equal}
use Rattle.type_laws.proofs.programs.types_go_to_themselves.Goals as goal

pub returns : goal.returns
returns c = record { assignable = go_to_themselves; same = same_means_equal }
