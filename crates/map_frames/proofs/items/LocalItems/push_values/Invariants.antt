use Rattle.std.proofs.Common.{◌++◌, take}
use Rattle.map_frames.proofs.ItemLaws.{Building}
use Rattle.map_frames.proofs.items.LocalItems.push_values.Given as goal

abbrev pub invariant-loop-value : goal.invariant-loop-value
invariant-loop-value l = Building l.fn.stores l.stores l.self (l.fn.self.items.items ++ take l.value-index l.values)
