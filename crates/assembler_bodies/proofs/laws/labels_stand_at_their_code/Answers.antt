use Rattle.std.proofs.Common.{refl}
use Rattle.assembler_bodies.specs.Body.{begun}
use Rattle.assembler_bodies.proofs.StepLaws.{label_stands}
use Rattle.assembler_bodies.proofs.laws.labels_stand_at_their_code.Goals as goal

pub returns : goal.returns
returns c = λ marks room front rest numbered name body pool after e others is. label_stands marks front rest numbered name (begun room) pool (after, body) refl e others is
