use Rattle.assembler_laws.proofs.BodyMeaning.BodyLaws.{body_read_again}
use Rattle.assembler_laws.proofs.body_meaning.bodies_are_read_again.Goals as goal

pub returns : goal.returns
returns c = body_read_again
