use Rattle.std.proofs.Common.{◌-◌, length, take}
use Rattle.map_frames.proofs.ItemLaws.{Building}
use Rattle.map_frames.proofs.items.LocalItems.pop_all.Given as goal

abbrev pub invariant-loop : goal.invariant-loop
invariant-loop l = Building l.fn.stores l.stores l.self (take (length l.fn.self.items.items - l.counter) l.fn.self.items.items)
