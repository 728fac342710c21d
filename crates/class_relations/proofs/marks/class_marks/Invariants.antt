use Rattle.link_rules.specs.Classes.{classes_of}
use Rattle.link_rules.specs.Supers.{superclasses, method_order}
use Rattle.class_relations.specs.Relations.{IsMarked}
use Rattle.class_relations.proofs.marks.class_marks.Given as goal

abbrev pub invariant-loop-class : goal.invariant-loop-class
invariant-loop-class l = record {
  above : IsMarked (classes_of l.orders) (method_order (classes_of l.orders)) l.class l.above;
  upward : IsMarked (classes_of l.orders) (superclasses (classes_of l.orders)) l.class l.upward;
}
