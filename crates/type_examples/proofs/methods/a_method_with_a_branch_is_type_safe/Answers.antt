use Rattle.type_examples.proofs.Computed.{choice_safe}
use Rattle.type_examples.proofs.methods.a_method_with_a_branch_is_type_safe.Goals as goal

pub returns : goal.returns
returns c = choice_safe
