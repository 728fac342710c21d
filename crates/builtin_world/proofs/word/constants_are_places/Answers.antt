use Rattle.std.proofs.Common.{refl}
use Rattle.builtin_world.specs.Library.{library}
use Rattle.builtin_world.proofs.word.constants_are_places.Goals as goal

pub returns-clause-priority : goal.returns-clause-priority
unfolding library
returns-clause-priority c = refl

pub returns-clause-start : goal.returns-clause-start
unfolding library
returns-clause-start c = refl

pub returns-clause-target : goal.returns-clause-target
unfolding library
returns-clause-target c = refl

pub returns-clause-message : goal.returns-clause-message
unfolding library
returns-clause-message c = refl

pub returns-clause-units : goal.returns-clause-units
unfolding library
returns-clause-units c = refl

pub returns-clause-text : goal.returns-clause-text
unfolding library
returns-clause-text c = refl
