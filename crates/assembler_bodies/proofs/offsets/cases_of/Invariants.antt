use Rattle.std.proofs.Common.{◌≡◌, drop}
use Rattle.assembler_bodies.specs.Marks.{marks_of}
use Rattle.assembler_bodies.specs.Offsets.{each, case_of}
use Rattle.assembler_bodies.proofs.EachLaws.{with_front}
use Rattle.assembler_bodies.proofs.offsets.cases_of.Given as goal

abbrev pub invariant-loop-one : goal.invariant-loop-one
invariant-loop-one l = with_front l.cases (each (case_of (marks_of l.labels)) (drop l.one-index l.said)) ≡ each (case_of (marks_of l.labels)) l.said
