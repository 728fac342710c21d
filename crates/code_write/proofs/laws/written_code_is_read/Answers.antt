use Rattle.code_write.proofs.CodeLaws.{written_code, code_array}
use Rattle.code_write.proofs.laws.written_code_is_read.Goals as goal

pub returns : goal.returns
returns c = record { laid = written_code; array = code_array }
