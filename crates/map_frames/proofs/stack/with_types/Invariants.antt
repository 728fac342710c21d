use Rattle.std.proofs.Common.{take}
use Rattle.type_rules.specs.MapFrames.{item_type, item_words}
use Rattle.map_frames.proofs.ItemLaws.{Stacking}
use Rattle.map_frames.proofs.stack.with_types.Given as goal

abbrev pub invariant-loop-item : goal.invariant-loop-item
invariant-loop-item g l = Stacking l.fn.stores l.fn.frame l.stores l.made (item_words (item_type (g.P.PoolOperands.operands l.pool) l.entry) (take l.item-index l.types))
