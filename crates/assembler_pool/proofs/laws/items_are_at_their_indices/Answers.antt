use Rattle.assembler_pool.proofs.ItemLaws.{item_is_at}
use Rattle.assembler_pool.proofs.laws.items_are_at_their_indices.Goals as goal

pub returns : goal.returns
returns c = item_is_at
