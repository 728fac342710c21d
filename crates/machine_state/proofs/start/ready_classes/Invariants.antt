use Rattle.std.proofs.Common.{◌≡◌, take}
use Rattle.machine_tables.specs.Tables.{classes_in}
use Rattle.fixed_objects.specs.Opening.{class_at_start}
use Rattle.machine_state.proofs.start.ready_classes.Given as goal

abbrev pub invariant-loop-class : goal.invariant-loop-class
invariant-loop-class l = classes_in l.classes ≡ class_at_start (take l.class-index l.ready)
