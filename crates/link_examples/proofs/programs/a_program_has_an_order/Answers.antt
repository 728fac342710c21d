use Rattle.link_examples.proofs.Orders.{mixed_order}
use Rattle.link_examples.proofs.programs.a_program_has_an_order.Goals as goal

pub returns : goal.returns
returns c = mixed_order
