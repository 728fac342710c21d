use Rattle.assembler_laws.proofs.BodyMeaning.BodyLaws.{body_read_again}
use Rattle.assembler_laws.proofs.ClassMeaning.MeaningLaws.{made_class_is_read}
use Rattle.assembler_laws.proofs.class_meaning.made_classes_are_read_again.Goals as goal

pub returns : goal.returns
returns c = made_class_is_read body_read_again
