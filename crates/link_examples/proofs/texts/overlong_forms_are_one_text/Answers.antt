use Rattle.std.proofs.Common.{refl}
use Rattle.class_names.specs.Units.{units_within}
use Rattle.link_examples.proofs.texts.overlong_forms_are_one_text.Goals as goal

pub returns-clause-surrogates : goal.returns-clause-surrogates
unfolding lib.Utf8.encode units_within
returns-clause-surrogates c = refl
