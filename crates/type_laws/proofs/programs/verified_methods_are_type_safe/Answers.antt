use Rattle.type_laws.proofs.Environments.{have_environments, are_safe}
use Rattle.type_laws.proofs.programs.verified_methods_are_type_safe.Goals as goal

pub returns : goal.returns
returns c = record { looked_at = have_environments; safe = are_safe }
