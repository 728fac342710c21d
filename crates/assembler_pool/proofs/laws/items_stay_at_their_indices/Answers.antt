use Rattle.assembler_pool.proofs.ItemLaws.{item_kept, item_stays}
use Rattle.assembler_pool.proofs.laws.items_stay_at_their_indices.Goals as goal

pub returns : goal.returns
returns c = record { grows = λ item. (item_kept item).grows; stays = item_stays }
