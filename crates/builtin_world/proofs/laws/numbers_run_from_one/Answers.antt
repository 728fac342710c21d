use Rattle.builtin_world.proofs.LawLemmas.{numbers_run}
use Rattle.builtin_world.proofs.laws.numbers_run_from_one.Goals as goal

pub returns : goal.returns
returns c = numbers_run
