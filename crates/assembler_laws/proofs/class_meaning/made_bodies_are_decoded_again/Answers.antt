use Rattle.assembler_laws.proofs.ClassMeaning.DecodeLaws.{decoded_code_is}
use Rattle.assembler_laws.proofs.class_meaning.made_bodies_are_decoded_again.Goals as goal

pub returns : goal.returns
returns c = decoded_code_is
