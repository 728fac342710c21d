use Rattle.std.proofs.Common.{◌≡◌, map, take}
use Rattle.code_decode.specs.declared.code.ClassUnit.{ClassUnit}
use Rattle.link_rules.specs.Names.{program_names}
use Rattle.pool_types.specs.Types.{text_types, entry_types}
use Rattle.pool_types.proofs.types.PoolTypes.new.Given as goal

abbrev pub invariant-loop-unit : goal.invariant-loop-unit
invariant-loop-unit l =
    l.rows.items ≡ map (λ (u : ClassUnit). entry_types (text_types (program_names l.types) u.file.pool) u.file.pool) (take l.unit-index l.units)
