use Rattle.assembler_pool.proofs.EntryLaws.{first_made}
use Rattle.assembler_pool.proofs.ItemLaws.{item_kept}
use Rattle.assembler_pool.proofs.laws.made_pools_are_pools.Goals as goal

pub returns : goal.returns
returns c = record { first = first_made; next = λ item. (item_kept item).made; pool = λ pool made. made.sound }
