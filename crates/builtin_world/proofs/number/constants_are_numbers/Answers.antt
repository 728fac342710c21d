use Rattle.builtin_world.proofs.LawLemmas.{constants_are_numbers}
use Rattle.builtin_world.proofs.number.constants_are_numbers.Goals as goal

pub returns : goal.returns
returns c = constants_are_numbers
