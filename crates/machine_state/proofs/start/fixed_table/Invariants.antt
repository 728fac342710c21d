use Rattle.std.proofs.Common.{◌≡◌, take}
use Rattle.std.specs.Option.{option_map}
use Rattle.machine_tables.specs.Tables.{object_at}
use Rattle.fixed_objects.specs.Fixed.{fixed_at}
use Rattle.machine_state.specs.Start.{heap_object}
use Rattle.machine_state.proofs.start.fixed_table.Given as goal

abbrev pub invariant-loop-object : goal.invariant-loop-object
invariant-loop-object l = object_at l.table ≡ (λ r. option_map heap_object (fixed_at (take l.object-index l.objects) r))
