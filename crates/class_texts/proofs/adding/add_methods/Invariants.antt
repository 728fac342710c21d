use Rattle.std.proofs.Common.{◌≡◌, ℕ, ◌<◌, Some, slice_get}
use Rattle.builtin_world.specs.BuiltinClass.{shown_method}
use Rattle.builtin_world.specs.declared.BuiltinMethod.{BuiltinMethod}
use Rattle.class_texts.specs.Texts.{Extends, KnowsMethod}
use Rattle.class_texts.proofs.adding.add_methods.Given as goal

abbrev pub invariant-loop-method : goal.invariant-loop-method
invariant-loop-method l = record {
  kept : Extends l.initial.numbers l.numbers;
  known : (i : ℕ) (m : BuiltinMethod) → i < l.method-index → slice_get l.methods i ≡ Some m → KnowsMethod l.numbers (shown_method m);
}
