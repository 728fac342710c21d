use Rattle.assembler_pool.proofs.ItemLaws.{item_kept}
use Rattle.assembler_pool.proofs.laws.entries_are_different.Goals as goal

pub returns : goal.returns
returns c = λ item. (item_kept item).different
