use Rattle.builtin_laws.proofs.TypeLaws.{classes_are_named}
use Rattle.builtin_laws.proofs.built_in_classes_are_named.Goals as goal

pub returns : goal.returns
returns c = classes_are_named
