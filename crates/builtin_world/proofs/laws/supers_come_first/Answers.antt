use Rattle.builtin_world.proofs.LawLemmas.{supers_come_first, interfaces_come_first}
use Rattle.builtin_world.proofs.laws.supers_come_first.Goals as goal

pub returns-clause-classes : goal.returns-clause-classes
returns-clause-classes c = supers_come_first

pub returns-clause-interfaces : goal.returns-clause-interfaces
returns-clause-interfaces c = interfaces_come_first
