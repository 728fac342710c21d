use Rattle.std.proofs.Common.{◌≡◌, false, drop}
use Rattle.class_names.specs.Reading.{spells_class_name}
use Rattle.class_names.proofs.names.is_spelled_class_name.Given as goal

abbrev pub invariant-loop-byte : goal.invariant-loop-byte
invariant-loop-byte l = spells_class_name l.part_begun (drop l.byte-index l.bytes) ≡ spells_class_name false l.bytes
