use Rattle.std.proofs.Common.{◌≡◌, map, take}
use Rattle.class_texts.specs.Texts.{pool_row}
use Rattle.class_texts.proofs.texts.pool_rows.Given as goal

abbrev pub invariant-loop-unit : goal.invariant-loop-unit
invariant-loop-unit l = l.rows.items ≡ map (λ u. pool_row l.numbers u.file.pool) (take l.unit-index l.units)
