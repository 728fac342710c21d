use Rattle.std.proofs.Common.{◌≡◌, take, bytes_eq, None}
use Rattle.std.specs.List.{position_from}
use Rattle.link_rules.specs.Arrays.{arguments_array, array_names}
use Rattle.java_machine.proofs.objects.arguments_class.Given as goal

abbrev pub invariant-loop-place : goal.invariant-loop-place
invariant-loop-place l = position_from (bytes_eq arguments_array) 0 (take l.place (array_names l.world)) ≡ None
