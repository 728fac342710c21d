use Rattle.type_lists.proofs.ListLaws.{stack_depth, stack_read, stack_put, stack_taken, stack_replaced}
use Rattle.type_lists.proofs.laws.stacks_are_words.Goals as goal

pub returns : goal.returns
returns c = record { depth = stack_depth; read = stack_read; put = stack_put; taken = stack_taken; replaced = stack_replaced }
