use Rattle.class_write.proofs.TableLaws.{class_writable, code_writable}
use Rattle.class_write.proofs.laws.classes_can_be_written.Goals as goal

pub returns : goal.returns
returns c = record { class = class_writable; code = code_writable }
