use Rattle.builtin_world.proofs.LawLemmas.{methods_are_distinct, methods_are_few}
use Rattle.builtin_world.proofs.laws.methods_are_distinct.Goals as goal

pub returns-clause-distinct : goal.returns-clause-distinct
returns-clause-distinct c = methods_are_distinct

pub returns-clause-few : goal.returns-clause-few
returns-clause-few c = methods_are_few
