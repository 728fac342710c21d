use Rattle.std.proofs.Common.{take}
use Rattle.named_types.specs.Others.{AreNames, names_in}
use Rattle.named_types.proofs.pool_names.names_of.Given as goal

abbrev pub invariant-loop-unit : goal.invariant-loop-unit
invariant-loop-unit l = AreNames l.names (names_in (take l.unit-index l.units))
