use Rattle.code_laws.proofs.CodeLaws.{accepted, all_accepted}
use Rattle.code_laws.proofs.code.codes_of_a_file_are_accepted.Goals as goal

pub returns : goal.returns
returns c = record { one = accepted; all = all_accepted }
