use Rattle.std.proofs.Common.{◌≡◌, map}
use Rattle.std.specs.List.{range_with_len}
use Rattle.method_table.specs.Rows.{class_methods}
use Rattle.method_table.proofs.classes.methods_of_classes.Given as goal

abbrev pub invariant-loop-class : goal.invariant-loop-class
invariant-loop-class l = l.classes.items ≡ map (class_methods l.lookup) (range_with_len 0 l.class)
