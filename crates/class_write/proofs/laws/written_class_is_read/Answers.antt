use Rattle.class_write.proofs.TableLaws.{written_class}
use Rattle.class_write.proofs.laws.written_class_is_read.Goals as goal

pub returns : goal.returns
returns c = written_class
