use Rattle.std.proofs.Common.{◌++◌, take, flat_map}
use Rattle.link_rules.specs.Arrays.{arrays_always, arrays_of_unit}
use Rattle.array_uses.specs.Most.{IsMost}
use Rattle.array_uses.proofs.uses.most_dimensions.Given as goal

abbrev pub invariant-loop-file : goal.invariant-loop-file
invariant-loop-file l = IsMost l.supers l.order (arrays_always ++ flat_map arrays_of_unit (take l.file l.units)) l.most.items
