use Rattle.std.proofs.Common.{◌++◌, map, take}
use Rattle.type_rules.specs.MapFrames.{item_type}
use Rattle.map_frames.proofs.ItemLaws.{Building}
use Rattle.map_frames.proofs.items.LocalItems.push_types.Given as goal

abbrev pub invariant-loop-item : goal.invariant-loop-item
invariant-loop-item g l = Building l.fn.stores l.stores l.self (l.fn.self.items.items ++ map (item_type (g.P.PoolOperands.operands l.pool) l.entry) (take l.item-index l.types))
