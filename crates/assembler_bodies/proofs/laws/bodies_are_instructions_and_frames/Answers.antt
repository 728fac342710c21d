use Rattle.assembler_bodies.proofs.MadeOfLaws.{body_made}
use Rattle.assembler_bodies.proofs.laws.bodies_are_instructions_and_frames.Goals as goal

pub returns : goal.returns
returns c = λ marks room lines body pool after e. body_made marks room lines pool (after, body) e
