use Rattle.class_write.proofs.TableLaws.{read_class_writable, read_code_writable}
use Rattle.class_write.proofs.laws.read_classes_can_be_written.Goals as goal

pub returns : goal.returns
returns c = record { class = read_class_writable; code = read_code_writable }
