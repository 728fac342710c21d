use Rattle.builtin_world.proofs.LawLemmas.{names_are_distinct, numbers_are_distinct}
use Rattle.builtin_world.proofs.laws.classes_are_distinct.Goals as goal

pub returns-clause-names : goal.returns-clause-names
returns-clause-names c = names_are_distinct

pub returns-clause-numbers : goal.returns-clause-numbers
returns-clause-numbers c = numbers_are_distinct
