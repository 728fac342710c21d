use Rattle.std.proofs.Common.{◌≡◌, map}
use Rattle.std.specs.List.{range_with_len}
use Rattle.link_rules.specs.FixedObjects.{class_object_at_start}
use Rattle.link_rules.specs.Names.{program_names}
use Rattle.java_rows.specs.Start.{fixed_object}
use Rattle.java_machine.proofs.objects.class_objects.Given as goal

abbrev pub invariant-loop-place : goal.invariant-loop-place
invariant-loop-place l =
    l.objects ≡ map (λ c. fixed_object (class_object_at_start (program_names l.world) l.world c)) (range_with_len 1 l.place)
