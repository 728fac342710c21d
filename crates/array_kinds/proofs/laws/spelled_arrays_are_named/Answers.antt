use Rattle.array_kinds.proofs.Names.{spells_type, type_spells}
use Rattle.array_kinds.proofs.laws.spelled_arrays_are_named.Goals as goal

pub returns-clause-named : goal.returns-clause-named
returns-clause-named c = spells_type

pub returns-clause-spelled : goal.returns-clause-spelled
returns-clause-spelled c = type_spells
