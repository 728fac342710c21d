use Rattle.class_write.proofs.TableLaws.{written_code}
use Rattle.class_write.proofs.laws.written_code_is_read.Goals as goal

pub returns : goal.returns
returns c = written_code
