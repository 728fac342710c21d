use Rattle.type_examples.proofs.Verified.{program_verified}
use Rattle.type_examples.proofs.programs.a_program_is_type_safe.Goals as goal

pub returns : goal.returns
returns c = program_verified
