use Rattle.std.proofs.Common.{◌≡◌, ℕ, ◌<◌, Some, map, slice_get}
use Rattle.builtin_world.specs.BuiltinClass.{shown_method}
use Rattle.builtin_world.specs.declared.BuiltinClass.{BuiltinClass}
use Rattle.class_texts.specs.Texts.{Extends, KnowsMethods}
use Rattle.class_texts.proofs.adding.add_classes.Given as goal

abbrev pub invariant-loop-class : goal.invariant-loop-class
invariant-loop-class l = record {
  kept : Extends l.initial.numbers l.numbers;
  known : (i : ℕ) (k : BuiltinClass) → i < l.class-index → slice_get l.classes i ≡ Some k → KnowsMethods l.numbers (map shown_method k.methods.now);
}
