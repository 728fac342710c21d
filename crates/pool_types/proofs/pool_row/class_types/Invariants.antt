use Rattle.std.proofs.Common.{◌≡◌, take}
use Rattle.pool_types.specs.Types.{entry_types}
use Rattle.pool_types.proofs.pool_row.class_types.Given as goal

abbrev pub invariant-loop-constant : goal.invariant-loop-constant
invariant-loop-constant l = l.row.items ≡ entry_types l.texts.items (take l.constant-index l.pool)
