use Rattle.std.proofs.Common.{◌≡◌, take}
use Rattle.class_names.specs.ShortestForms.{encoded}
use Rattle.class_names.proofs.shortest_forms.encoded.Given as goal

abbrev pub invariant-loop-unit : goal.invariant-loop-unit
invariant-loop-unit l = l.bytes.items ≡ encoded (take l.unit-index l.units)
