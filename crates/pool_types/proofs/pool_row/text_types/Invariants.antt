use Rattle.std.proofs.Common.{◌≡◌, take}
use Rattle.link_rules.specs.Names.{program_names}
use Rattle.pool_types.specs.Types.{text_types}
use Rattle.pool_types.proofs.pool_row.text_types.Given as goal

abbrev pub invariant-loop-constant : goal.invariant-loop-constant
invariant-loop-constant l = l.row.items ≡ text_types (program_names l.types) (take l.constant-index l.pool)
