use Rattle.builtin_facts.proofs.NativeLaws.{numbers}
use Rattle.builtin_facts.proofs.laws.built_in_classes_have_numbers.Goals as goal

pub returns : goal.returns
returns c = numbers
