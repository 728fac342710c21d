use Rattle.array_kinds.proofs.Names.{itself_spells, made_spells, primitive_spells}
use Rattle.array_kinds.proofs.laws.arrays_are_spelled.Goals as goal

pub returns-clause-itself : goal.returns-clause-itself
returns-clause-itself c = itself_spells

pub returns-clause-made : goal.returns-clause-made
returns-clause-made c = made_spells

pub returns-clause-primitive : goal.returns-clause-primitive
returns-clause-primitive c = primitive_spells
