use Rattle.assembler_bodies.proofs.StepLaws.{instruction_puts}
use Rattle.assembler_bodies.proofs.laws.instructions_are_put.Goals as goal

pub returns : goal.returns
returns c = λ marks operation old new pool after e. instruction_puts marks operation old pool (after, new) e
