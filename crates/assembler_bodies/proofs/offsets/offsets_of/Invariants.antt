use Rattle.std.proofs.Common.{◌≡◌, drop}
use Rattle.assembler_bodies.specs.Marks.{marks_of}
use Rattle.assembler_bodies.specs.Offsets.{each, offset_of}
use Rattle.assembler_bodies.proofs.EachLaws.{with_front}
use Rattle.assembler_bodies.proofs.offsets.offsets_of.Given as goal

abbrev pub invariant-loop-name : goal.invariant-loop-name
invariant-loop-name l = with_front l.offsets (each (offset_of (marks_of l.labels)) (drop l.name-index l.names)) ≡ each (offset_of (marks_of l.labels)) l.names
