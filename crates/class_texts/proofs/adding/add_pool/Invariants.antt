use Rattle.std.proofs.Common.{ℕ, ◌<◌, slice_get}
use Rattle.class_texts.specs.Texts.{Extends, KnowsEntry}
use Rattle.class_texts.proofs.adding.add_pool.Given as goal

abbrev pub invariant-loop-constant : goal.invariant-loop-constant
invariant-loop-constant l = record {
  kept : Extends l.initial.numbers l.numbers;
  known : (i : ℕ) → i < l.constant-index → KnowsEntry l.numbers (slice_get l.pool i);
}
