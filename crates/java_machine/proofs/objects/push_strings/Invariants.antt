use Rattle.std.proofs.Common.{◌≡◌, ◌++◌, map}
use Rattle.std.specs.List.{range_with_len}
use Rattle.link_rules.specs.FixedObjects.{string_at_start}
use Rattle.link_rules.specs.Names.{program_names}
use Rattle.java_rows.specs.Start.{fixed_object}
use Rattle.java_machine.proofs.objects.push_strings.Given as goal

abbrev pub invariant-loop-string : goal.invariant-loop-string
invariant-loop-string l =
    l.objects ≡ l.initial.objects ++ map (λ n. fixed_object (string_at_start (program_names l.world) n)) (range_with_len 0 l.string)
