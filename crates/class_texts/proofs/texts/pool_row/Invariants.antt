use Rattle.std.proofs.Common.{◌≡◌, take}
use Rattle.class_texts.specs.Texts.{pool_row}
use Rattle.class_texts.proofs.texts.pool_row.Given as goal

abbrev pub invariant-loop-constant : goal.invariant-loop-constant
invariant-loop-constant l = l.row.items ≡ pool_row l.numbers (take l.constant-index l.pool)
