use Rattle.std.proofs.Common.{◌≡◌, ◌-◌, ◌≤◌, ◌++◌, map}
use Rattle.std.specs.List.{range_with_len}
use Rattle.link_rules.specs.Classes.{classes_of}
use Rattle.base_order.specs.Bases.{primitive_bases, class_base}
use Rattle.base_order.proofs.bases.program_bases.Given as goal

abbrev pub invariant-loop-class : goal.invariant-loop-class
invariant-loop-class l = record {
  some : 1 ≤ l.class;
  texts : l.texts.items ≡ primitive_bases ++ map (class_base (classes_of l.supers)) (range_with_len 1 (l.class - 1));
}
