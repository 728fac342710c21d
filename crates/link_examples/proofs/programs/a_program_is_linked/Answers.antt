use Rattle.link_examples.proofs.Linked.{nothing_linked, mixed_linked}
use Rattle.link_examples.proofs.programs.a_program_is_linked.Goals as goal

pub returns : goal.returns
returns c = record { none = nothing_linked; one = mixed_linked }
