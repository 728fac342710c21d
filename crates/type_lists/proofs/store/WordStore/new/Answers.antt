use Rattle.type_lists.proofs.StoreLaws.{remembers_none}
use Rattle.type_lists.proofs.store.WordStore.new.Goals as goal

pub returns-clause-remembered : goal.returns-clause-remembered
returns-clause-remembered c = λ h. remembers_none h _ c.new-3.ensures
