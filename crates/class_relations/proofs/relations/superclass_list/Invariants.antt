use Rattle.std.proofs.Common.{◌≡◌, ◌<◌, ℕ, Some, length, slice_get}
use Rattle.link_rules.specs.Classes.{classes_of, superclass_of}
use Rattle.class_relations.proofs.relations.superclass_list.Given as goal

abbrev pub invariant-loop-class : goal.invariant-loop-class
invariant-loop-class l = record {
  count : length l.list.items ≡ l.class;
  each : (c : ℕ) → c < l.class → slice_get l.list.items c ≡ Some (superclass_of (classes_of l.supers) c);
}
