use Rattle.std.proofs.Common.{◌≡◌, ℕ, ◌<◌, Some, slice_get}
use Rattle.code_decode.specs.declared.code.ClassUnit.{ClassUnit}
use Rattle.class_texts.specs.Texts.{Extends, KnowsPool}
use Rattle.class_texts.proofs.adding.add_units.Given as goal

abbrev pub invariant-loop-unit : goal.invariant-loop-unit
invariant-loop-unit l = record {
  kept : Extends l.initial.numbers l.numbers;
  known : (k : ℕ) (u : ClassUnit) → k < l.unit-index → slice_get l.units k ≡ Some u → KnowsPool l.numbers u.file.pool;
}
