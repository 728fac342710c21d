use Rattle.builtin_world.proofs.LawLemmas.{supers_are_open, interfaces_are_interfaces}
use Rattle.builtin_world.proofs.laws.supers_can_be_extended.Goals as goal

pub returns-clause-classes : goal.returns-clause-classes
returns-clause-classes c = supers_are_open

pub returns-clause-interfaces : goal.returns-clause-interfaces
returns-clause-interfaces c = interfaces_are_interfaces
